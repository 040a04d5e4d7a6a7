use Rattle.std.proofs.Common.{◌≡◌, map, length, ◌/◌, ◌%◌}
use Rattle.std.specs.List.{range_with_len}
use Rattle.lgc_spec.specs.Tables.{table_value}
use Rattle.lgc_spec.proofs.table.results.Given as goal

abbrev pub invariant-loop-row : goal.invariant-loop-row
invariant-loop-row l = l.table ≡ map (λ row. table_value l.bytes l.names l.cells (row / length l.names) (row % length l.names)) (range_with_len 0 l.row)
