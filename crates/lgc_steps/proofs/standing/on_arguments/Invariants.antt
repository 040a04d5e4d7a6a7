-- What the sets so far give to the formula is covered.
use Rattle.std.proofs.Common.{◌≡◌, ◌<◌, ◌||◌, ℕ, drop}
use Rattle.lgc_values.specs.Values.{has}
use Rattle.lgc_sequents.specs.Steps.{with_signs, carries}
use Rattle.lgc_steps.proofs.standing.on_arguments.Given as goal

abbrev pub invariant-loop-i : goal.invariant-loop-i
invariant-loop-i g l = (v : ℕ) → v < g.row.N → (has l.covered v || carries (with_signs (drop l.i l.sets) (drop l.i l.arguments)) l.f v) ≡ carries (with_signs l.sets l.arguments) l.f v
