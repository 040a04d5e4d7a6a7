-- None so far has every value.
use Rattle.std.proofs.Common.{◌≡◌, ◌≢◌, ◌<◌, ℕ, List, [], slice_get, Some}
use Rattle.lgc_tableau_build.specs.Numbers.{IsFull}
use Rattle.lgc_tableau_build.proofs.branch.first_full.Given as goal

abbrev pub invariant-loop-pair : goal.invariant-loop-pair
invariant-loop-pair g l = (i : ℕ) (earlier : ℕ × List ℕ) → i < l.pair-index → slice_get l.branch i ≡ Some earlier → earlier.1 ≢ [] → IsFull g.row.N l.branch earlier.0 → ⊥
