-- What is known of the arguments, the row of those before, and its bound.
use Rattle.std.proofs.Common.{◌≡◌, ◌<◌, ◌≤◌, ◌^◌, true, length, take, map}
use Rattle.std.specs.List.{list_all}
use Rattle.lgc_values.specs.declared.TheConstants.{MOST_ROWS}
use Rattle.lgc_syntax.specs.Fits.{fits_within}
use Rattle.lgc_syntax.specs.Values.{listed, row_index, value}
use Rattle.lgc_meaning.specs.Operators.{with_operators}
use Rattle.lgc_meaning.proofs.value.+value_by_operators.Given as goal

abbrev pub invariant-loop-arg : goal.invariant-loop-arg
invariant-loop-arg l = record {
  fits : list_all (λ f. fits_within (with_operators l.size l.operators) f 0) l.arg-items ≡ true;
  most : l.size ^ length l.arg-items ≤ MOST_ROWS;
  row : l.row ≡ row_index l.size (map (value (with_operators l.size l.operators) (listed l.v)) (take l.arg-index l.arg-items));
  below : l.row < l.size ^ l.arg-index;
  rows : l.size ^ l.arg-index ≤ MOST_ROWS;
}
