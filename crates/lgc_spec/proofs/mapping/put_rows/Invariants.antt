use Rattle.std.proofs.Common.{◌≡◌, take, None}
use Rattle.lgc_spec.specs.InOrder.{first_fault}
use Rattle.lgc_spec.specs.Mappings.{row_fault}
use Rattle.lgc_spec.specs.Rows.{TellsRows}
use Rattle.lgc_spec.proofs.mapping.put_rows.Given as goal

abbrev pub invariant-loop-row : goal.invariant-loop-row
invariant-loop-row l = record {
  faultless : first_fault (row_fault l.bytes l.names l.arity) (take l.row-index l.rows) ≡ None;
  told : TellsRows l.bytes l.names l.arity (take l.row-index l.rows) l.table;
}
