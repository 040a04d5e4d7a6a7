-- What is told of a kind is true of each token of the kind.
use Rattle.lgc_tokens.proofs.KindLaws.{told}
use Rattle.lgc_tokens.proofs.terminal.of_each_of_kind.Goals as goal

pub returns : goal.returns
returns c = told c.args.terminal c.args.kind c.told_by_kind.result c.told_by_kind.ensures
