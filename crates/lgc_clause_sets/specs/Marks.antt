-- Marks of clauses, by which most pairs are told apart at once: the bits of a mark are the places of the sets with members, 64 and more of
-- them from 0 again.
use Rattle.std.specs.Prelude.{◌≡◌, ◌<◌, ◌+◌, ◌%◌, ◌==◌, ◌&&◌, ◌||◌, ℕ, Bool, false, List, [], ◌∷◌}
use Rattle.std.specs.Int.{bit_at}
use Rattle.lgc_clause_sets.specs.AtomClauses.{has_member}

-- whether a set with members that stands at a place has this bit
abbrev pub has_bit : ℕ → ℕ → List ℕ → Bool
has_bit bit place set = (bit == place % 64) && has_member set

-- whether some set has this bit, where the first stands at `place`
abbrev pub is_marked : ℕ → ℕ → List (List ℕ) → Bool
is_marked bit place [] = false
is_marked bit place (set ∷ sets) = has_bit bit place set || is_marked bit (place + 1) sets

-- each bit of the mark tells whether some set has it
abbrev pub IsMark : List (List ℕ) → ℕ → Type 0
IsMark sets mark = (bit : ℕ) → bit < 64 → (bit_at mark bit == 1) ≡ is_marked bit 0 sets
