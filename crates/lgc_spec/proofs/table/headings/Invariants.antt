use Rattle.std.proofs.Common.{◌≡◌, map}
use Rattle.std.specs.List.{range_with_len}
use Rattle.lgc_spec.specs.Tables.{cell_at, heading_place}
use Rattle.lgc_spec.proofs.table.headings.Given as goal

abbrev pub invariant-loop-line : goal.invariant-loop-line
invariant-loop-line l = l.words.items ≡ map (λ line. cell_at l.cells (heading_place l.n line)) (range_with_len 0 l.line)
