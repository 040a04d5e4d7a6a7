-- A query with a quantifier isn't refuted.
use Rattle.std.proofs.Common.{sym, ◌∙◌}
use Rattle.lgc_check.proofs.Refutations.{no_refutation}
use Rattle.lgc_check.proofs.refutation.is_refutation.Goals as goal

pub returns-then-not-is_propositional : goal.returns-then-not-is_propositional
returns-then-not-is_propositional g c = no_refutation c.args.m.now c.args.query.now c.args.v.now (sym c.is_propositional.ensures ∙ c.if-not-is_propositional.true)
