use Rattle.std.proofs.Common.{sym, ◌∙◌}
use Rattle.lgc_spec.specs.Folds.{applied}
use Rattle.lgc_spec.proofs.SetSteps.{join_first, join_next, join_none}
use Rattle.lgc_spec.proofs.sets.folded.Goals as goal
use Rattle.lgc_spec.proofs.sets.folded.Goals.{then-has+in-Some, then-has+in-None, else-has}

pub loop-value-preserved : goal.loop-value-preserved
loop-value-preserved c =
    elim c.if-has.branch [
      | then-has+in-Some w ↦ (record {
        so_far = rw (w.joined-is, w.applied.ensures.value) (join_next (applied c.args.n c.args.table.now) c.args.mask c.loop-value.value w.in-Some.before c.loop-value.joined (sym c.has.ensures ∙ w.if-has.true) c.loop-value.invariant.so_far w.in-Some.is);
        below = rw w.joined-is w.applied.ensures.below;
      })
      | then-has+in-None w ↦ (record {
        so_far = rw w.joined-is (join_first (applied c.args.n c.args.table.now) c.args.mask c.loop-value.value c.loop-value.joined (sym c.has.ensures ∙ w.if-has.true) c.loop-value.invariant.so_far w.in-None.is);
        below = rw w.joined-is c.loop-value-test.true;
      })
      | else-has w ↦ (record {
        so_far = rw w.joined-is (join_none (applied c.args.n c.args.table.now) c.args.mask c.loop-value.value c.loop-value.joined (sym c.has.ensures ∙ w.if-has.false) c.loop-value.invariant.so_far);
        below = rw w.joined-is c.loop-value.invariant.below;
      })
    ]
