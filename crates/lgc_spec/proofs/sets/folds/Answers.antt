use Rattle.lgc_spec.specs.Folds.{applied, folded}
use Rattle.lgc_spec.proofs.SetSteps.{one_more_set}
use Rattle.lgc_spec.proofs.sets.folds.Goals as goal

pub loop-index-preserved : goal.loop-index-preserved
loop-index-preserved c =
    one_more_set c.args.n c.loop-index.index (folded (applied c.args.n c.args.table.now)) c.loop-index.values _ _ c.loop-index.invariant c.in_ok-push.ensures.ok c.folded.ensures
