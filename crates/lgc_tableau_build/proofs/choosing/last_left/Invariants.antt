-- None is left from here on.
use Rattle.std.proofs.Common.{◌≡◌, ◌≤◌, ℕ, false, length}
use Rattle.lgc_tableau_build.specs.Numbers.{is_left}
use Rattle.lgc_tableau_build.proofs.choosing.last_left.Given as goal

abbrev pub invariant-loop-k : goal.invariant-loop-k
invariant-loop-k l = (l.k ≤ length l.left) × ((j : ℕ) → l.k ≤ j → is_left l.left j ≡ false)

abbrev pub decreases-loop-k : goal.decreases-loop-k
decreases-loop-k l = l.k
