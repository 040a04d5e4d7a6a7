-- The sets that are left are still to be taken away.
use Rattle.std.proofs.Common.{◌≡◌, ℕ, ◌<◌, ◌&&◌, not, drop}
use Rattle.std.specs.List.{zip}
use Rattle.lgc_values.specs.Values.{has}
use Rattle.lgc_packed.specs.Packed.{marks}
use Rattle.lgc_packed.proofs.clauses.besides.Given as goal

abbrev pub invariant-loop-i : goal.invariant-loop-i
invariant-loop-i g l = (w : ℕ) → w < g.row.N → (has l.left w && not (marks (zip (drop l.i l.arguments) (drop l.i l.sets)) l.number w)) ≡ (has l.fn.sign w && not (marks (zip l.arguments l.sets) l.number w))
