-- The formula at the place is a compound.
use Rattle.std.proofs.Common.{sym, ◌∙◌}
use Rattle.lgc_lemmas.proofs.Refuting.{compound_there}
use Rattle.lgc_lemmas.proofs.atoms.compound_at.Goals as goal

pub returns-then-is_compound : goal.returns-then-is_compound
returns-then-is_compound g c = compound_there c.args.nodes.now c.args.goal.now c.pairs-pairs.result.now c.loop-i.i c.index-pairs-i.result c.pairs-pairs.ensures.pairs c.loop-i-test.true (sym c.is_compound.ensures ∙ c.if-is_compound.true)
