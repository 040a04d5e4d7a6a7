-- The pairs so far are included, and the places so far are of formulas before the next one.
use Rattle.std.proofs.Common.{◌≡◌, ◌<◌, ◌≤◌, ℕ, List, Some, length, slice_get, take}
use Rattle.std.specs.Prelude.{All}
use Rattle.lgc_packed.specs.Packed.{IsIncluded}
use Rattle.lgc_packed.proofs.inclusion.included_in.Given as goal

abbrev pub invariant-loop-pair : goal.invariant-loop-pair
invariant-loop-pair g l = (l.at ≤ length l.others) × ((d : ℕ × List ℕ) → slice_get l.pair-items l.pair-index ≡ Some d → All (λ other. other.0 < d.0) (take l.at l.others)) × IsIncluded g.row.N (take l.pair-index l.pair-items) l.others
