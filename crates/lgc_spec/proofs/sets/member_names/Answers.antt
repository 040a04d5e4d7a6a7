use Rattle.std.proofs.Common.{sym, ◌∙◌}
use Rattle.lgc_spec.proofs.SetSteps.{name_more, name_none}
use Rattle.lgc_spec.proofs.sets.member_names.Goals as goal
use Rattle.lgc_spec.proofs.sets.member_names.Goals.{then-has+in_ok-of_bytes+in_ok-push, else-has}

pub loop-value-preserved : goal.loop-value-preserved
loop-value-preserved c =
    elim c.if-has.branch [
      | then-has+in_ok-of_bytes+in_ok-push w ↦ rw w.found-is (name_more c.args.names.now c.args.mask c.loop-value.value _ _ c.loop-value.found _ c.loop-value.invariant (sym c.has.ensures ∙ w.if-has.true) c.loop-value-test.true c.index-names-value.is (w.in_ok-of_bytes.ensures ∙ w.bytes.ensures) w.in_ok-push.ensures.ok)
      | else-has w ↦ rw w.found-is (name_none c.args.names.now c.args.mask c.loop-value.value c.loop-value.found c.loop-value.invariant (sym c.has.ensures ∙ w.if-has.false))
    ]
