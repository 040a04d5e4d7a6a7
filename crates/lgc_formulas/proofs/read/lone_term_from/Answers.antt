use Rattle.std.proofs.Common.{length, drop}
use Rattle.lgc_tokens.specs.Spelled.{spelled_all}
use Rattle.lgc_formulas.proofs.Tops.{lone_told}
use Rattle.lgc_formulas.proofs.read.lone_term_from.Goals as goal

pub returns-in-Ok-clause-exact : goal.returns-in-Ok-clause-exact
returns-in-Ok-clause-exact c = lone_told (length c.args.bytes.now) (spelled_all c.args.bytes.now c.args.tokens.now) (drop c.args.at (spelled_all c.args.bytes.now c.args.tokens.now)) _ _ _ c.in-Ok.ensures.exact
