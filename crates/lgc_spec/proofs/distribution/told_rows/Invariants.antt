use Rattle.std.proofs.Common.{◌≡◌, take, None}
use Rattle.std.specs.List.{AllZip}
use Rattle.lgc_spec.specs.InOrder.{first_fault}
use Rattle.lgc_spec.specs.Distributions.{set_fault}
use Rattle.lgc_spec.specs.ToldSets.{Tells}
use Rattle.lgc_spec.proofs.distribution.told_rows.Given as goal

abbrev pub invariant-loop-row : goal.invariant-loop-row
invariant-loop-row l = record {
  faultless : first_fault (set_fault l.bytes l.names) (take l.row-index l.rows) ≡ None;
  told : AllZip (Tells l.bytes l.names) l.told.items (take l.row-index l.rows);
}
