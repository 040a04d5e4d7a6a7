use Rattle.std.proofs.Common.{ℕ, ◌<◌}
use Rattle.lgc_orders.specs.Order.{Below, IsUpperBound}
use Rattle.lgc_orders.proofs.order.Order.is_sup.Given as goal

abbrev pub invariant-loop-d : goal.invariant-loop-d
invariant-loop-d l = (d : ℕ) → d < l.d → IsUpperBound (Below l.self) l.a l.b d → Below l.self l.c d
