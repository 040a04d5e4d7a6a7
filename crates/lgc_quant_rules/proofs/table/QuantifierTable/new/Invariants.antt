-- The rows before this one are told.
use Rattle.std.proofs.Common.{ℕ, ◌<◌, ◌≡◌, false, length, get_or}
use Rattle.lgc_values.specs.Values.{has, set_of_row}
use Rattle.lgc_values.specs.Logic.{value_over}
use Rattle.lgc_quant_rules.proofs.table.QuantifierTable.new.Given as goal

abbrev pub invariant-loop-row : goal.invariant-loop-row
invariant-loop-row g l = record {
  count : length l.inside.items ≡ l.row;
  told : (row : ℕ) → row < l.row → get_or l.inside.items row false ≡ has l.sign (value_over l.m l.q (set_of_row g.row.N row));
}
