-- One more set has no members.
use Rattle.lgc_translate.proofs.RowLaws.{no_items_more}
use Rattle.lgc_translate.proofs.rows.no_items.Goals as goal

pub loop-place-preserved : goal.loop-place-preserved
loop-place-preserved g c = no_items_more c.args.atoms.now c.loop-place._place c.loop-place.sets c.push.new.self c.empty.result c.loop-place-test.true c.loop-place.invariant c.empty.ensures c.in_ok-push.ensures.ok
