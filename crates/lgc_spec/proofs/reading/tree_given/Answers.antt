use Rattle.lgc_spec.proofs.PlainNames.{names_plain}
use Rattle.lgc_spec.proofs.reading.tree_given.Goals as goal

pub returns-in-Ok-clause-plain : goal.returns-in-Ok-clause-plain
returns-in-Ok-clause-plain c =
    names_plain c.args.bytes.now c.deref.result.now (rw c.deref.ensures.value c.in_ok-tokens.ensures) c.in-Ok.tree.statements c.in-Ok.ensures.declared
