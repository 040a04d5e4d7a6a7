use Rattle.std.proofs.Common.{◌≡◌, ℕ, ◌<◌, ◌/◌, ◌%◌, length, get_or}
use Rattle.lgc_orders.specs.Order.{Below}
use Rattle.lgc_spec.specs.Bounds.{IsBound}
use Rattle.lgc_spec.proofs.bounds.bounds_given.Given as goal

abbrev pub invariant-loop-row : goal.invariant-loop-row
invariant-loop-row l = record {
  size : length l.table ≡ l.row;
  bounds : (r : ℕ) → r < l.row → IsBound l.lower (length l.names) (Below l.order) (r / length l.names) (r % length l.names) (get_or l.table r 0);
}
