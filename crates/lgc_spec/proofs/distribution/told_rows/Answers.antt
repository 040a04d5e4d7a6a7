use Rattle.std.proofs.Common.{refl, ap, sym, ◌∙◌, is_some}
use Rattle.std.proofs.lemmas.Result.{err_from_is_err_and}
use Rattle.lgc_spec.specs.InOrder.{first_fault_behind}
use Rattle.lgc_spec.proofs.DistributionSteps.{row_fails, row_again, one_more_told}
use Rattle.lgc_spec.proofs.distribution.told_rows.Goals as goal

pub loop-row-init : goal.loop-row-init
unfolding first_fault_behind
loop-row-init c = record { faultless = refl; told = rw c.new-told.ensures.items tt }

pub returns-in_err-check_row-clause-fault : goal.returns-in_err-check_row-clause-fault
returns-in_err-check_row-clause-fault c =
    let p = err_from_is_err_and c.from_residual.result c.from_residual.ensures.1 in
    rw (p.1, p.2) (row_fails c.args.bytes.now c.args.names.now c.args.rows.now c.loop-row.row-index c.row-item.result c.loop-row-test.true c.row-item.is c.loop-row.invariant.faultless _ c.in_err-check_row.ensures)

pub returns-then-is_some-clause-fault : goal.returns-then-is_some-clause-fault
returns-then-is_some-clause-fault c =
    rw c.fault_at.ensures
    (row_again c.args.bytes.now c.args.names.now c.args.rows.now c.loop-row.row-index c.row-item.result c.loop-row-test.true c.row-item.is c.loop-row.invariant.faultless c.mask_named-mask.result c.loop-row.told.items c.in_ok-check_row.ensures (rw c.items.ensures at c.mask_named-mask.ensures.members) c.mask_named-mask.ensures.below c.loop-row.invariant.told
    (rw c.deref.ensures.value at (sym (ap is_some c.row_over.ensures) ∙ sym c.is_some.ensures ∙ c.if-is_some.true)))

pub loop-row-preserved : goal.loop-row-preserved
loop-row-preserved c =
    let next = one_more_told c.args.bytes.now c.args.names.now c.args.rows.now c.loop-row.row-index c.row-item.result c.loop-row-test.true c.row-item.is c.loop-row.invariant.faultless c.mask_named-mask.result c.loop-row.told.items c.in_ok-check_row.ensures (rw c.items.ensures at c.mask_named-mask.ensures.members) c.mask_named-mask.ensures.below c.loop-row.invariant.told
    (record { mask = c.mask_named-mask.result; value = c.value_of-value.result }) refl c.value_of-value.ensures.value
    (rw c.deref.ensures.value at (sym (ap is_some c.row_over.ensures) ∙ sym c.is_some.ensures ∙ c.if-is_some.false)) in
    record { faultless = next.0; told = rw c.in_ok-push.ensures.items next.1 }
