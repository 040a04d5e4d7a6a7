use Rattle.std.proofs.Common.{ℕ, ◌<◌}
use Rattle.lgc_orders.specs.Order.{Below, IsSup}
use Rattle.lgc_orders.proofs.order.Order.sup.Given as goal

abbrev pub invariant-loop-c : goal.invariant-loop-c
invariant-loop-c l = (d : ℕ) → d < l.c → IsSup l.self.size (Below l.self) l.a l.b d → ⊥
