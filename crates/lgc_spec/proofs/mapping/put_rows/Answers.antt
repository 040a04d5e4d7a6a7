use Rattle.std.proofs.Common.{refl}
use Rattle.std.proofs.lemmas.Result.{err_from_is_err_and}
use Rattle.lgc_spec.specs.InOrder.{first_fault_behind}
use Rattle.lgc_spec.proofs.PutRows.{narrow_row, no_rows, duplicate_row, one_more_row}
use Rattle.lgc_spec.proofs.mapping.put_rows.Goals as goal

pub loop-row-init : goal.loop-row-init
unfolding first_fault_behind
loop-row-init c = record {
  faultless = refl;
  told = no_rows c.args.bytes.now c.args.names.now c.args.arity c.args.table.now c.requires.empty;
}

pub returns-in_err-check_row-clause-fault : goal.returns-in_err-check_row-clause-fault
returns-in_err-check_row-clause-fault c =
    let p = err_from_is_err_and c.from_residual.result c.from_residual.ensures.1 in
    rw (p.1, p.2) (narrow_row c.args.bytes.now c.args.names.now c.args.arity c.args.rows.now c.loop-row.row-index c.row-item.result _ c.loop-row-test.true c.row-item.is c.loop-row.invariant.faultless c.in_err-check_row.ensures)

pub returns-then-table-index-clause-fault : goal.returns-then-table-index-clause-fault
returns-then-table-index-clause-fault c =
    rw c.fault_at.ensures
    (duplicate_row c.args.bytes.now c.args.names.now c.args.arity c.args.rows.now c.loop-row.row-index c.row-item.result c.loop-row.table c.row_index-index.result c.loop-row-test.true c.row-item.is c.loop-row.invariant.faultless
    (record { some = c.requires.some; few = c.requires.few; told = c.loop-row.invariant.told; wide = c.in_ok-check_row.ensures; place = rw c.items.ensures at c.row_index-index.ensures.index })
    c.if-table-index.true)

pub loop-row-preserved : goal.loop-row-preserved
loop-row-preserved c =
    let next = one_more_row c.args.bytes.now c.args.names.now c.args.arity c.args.rows.now c.loop-row.row-index c.row-item.result c.loop-row.table c.row_index-index.result c.value_of.result c.loop-row-test.true c.row-item.is c.loop-row.invariant.faultless
    (record { some = c.requires.some; few = c.requires.few; told = c.loop-row.invariant.told; wide = c.in_ok-check_row.ensures; place = rw c.items.ensures at c.row_index-index.ensures.index })
    c.if-table-index.false c.value_of.ensures.value in
    record { faultless = next.0; told = next.1 }
