-- One set more is marked.
use Rattle.lgc_clause_sets.proofs.MarkLaws.{mark_more}
use Rattle.lgc_clause_sets.proofs.row.mark_of.Goals as goal

pub loop-place-preserved : goal.loop-place-preserved
loop-place-preserved g c = mark_more c.args.sets.now c.loop-place.place c.index-sets-place.result c.loop-place.mark c.bit_of-mark.result c.loop-place-test.true c.index-sets-place.is c.loop-place.invariant c.bit_of-mark.ensures
