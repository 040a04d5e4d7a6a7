-- Operators of two arguments and quantifiers by the bounds of an ordering.
use Rattle.std.specs.Prelude.{◌≡◌, ℕ, ◌+◌, ◌-◌, ◌^◌, All, ◌*◌, ◌/◌, ◌%◌, ◌<◌, ◌==◌, Bool, true, false, List, [], ◌∷◌, find, length, Option, Some, None, Result, Ok, Err, slice_index, if◌then◌else◌}
use Rattle.std.specs.Str.{bytes_eq}
use Rattle.lgc_values.specs.Values.{members_of}
use Rattle.lgc_orders.specs.Order.{Leads, IsInf, IsSup}
use Rattle.lgc_parser.specs.declared.tree.Word.{Word}
use Rattle.lgc_spec.specs.declared.fault.SpecFault.{SpecFault}
use Rattle.lgc_spec.specs.declared.fault.TheConstants.{TABLE_SHAPE, UNKNOWN_ORDERING, NO_BOUND}
use Rattle.lgc_spec.specs.Faults.{fault_at, keeping, unless, Follows}
use Rattle.lgc_spec.specs.Words.{text_of, names_of}
use Rattle.lgc_spec.specs.Orderings.{Ordered}

-- c is the greatest lower, or the least upper bound of a and b
abbrev pub IsBound : Bool → ℕ → (ℕ → ℕ → Type 0) → ℕ → ℕ → ℕ → Type 0
IsBound true n le a b c = IsInf n le a b c
IsBound false n le a b c = IsSup n le a b c

-- the two arguments of a row have a bound
abbrev pub HasBound : Bool → ℕ → (ℕ → ℕ → Type 0) → ℕ → Type 0
HasBound lower n le row = (c : ℕ) × IsBound lower n le (row / n) (row % n) c

-- The table has the bound at each row; or the first row that has none is a fault, at the word `inf` or `sup`.
abbrev pub BoundsGive : Bool → List (List ℕ) → ℕ → (ℕ → ℕ → Type 0) → Result (List ℕ) SpecFault → Type 0
BoundsGive lower names at le (Ok table) =
    let n = length names in
    (length table ≡ n * n) × ((row : ℕ) → row < n * n → IsBound lower n le (row / n) (row % n) (slice_index table row))
BoundsGive lower names at le (Err fault) =
    let n = length names in
    (row : ℕ) × (row < n * n) × (HasBound lower n le row → ⊥) × ((r : ℕ) → r < row → HasBound lower n le r)
    × (fault ≡ keeping NO_BOUND at (names_of names (row / n ∷ row % n ∷ [])))

-- there are two arguments, else at the word `inf` or `sup`
abbrev pub not_binary : ℕ → ℕ → Option SpecFault
not_binary arity at = if arity == 2 then None else Some (fault_at TABLE_SHAPE at)

-- the ordering that a word names, else at the word
abbrev pub found : Word → Option Ordered → Result Ordered SpecFault
found word None = Err (fault_at UNKNOWN_ORDERING word.at)
found word (Some ordered) = Ok ordered

abbrev pub ordering_named : List ℕ → List Ordered → Word → Option Ordered
ordering_named bytes orderings word = find (λ o. bytes_eq o.name (text_of bytes word)) orderings

-- what the bounds of an ordering give
abbrev pub BoundGives : List ℕ → List (List ℕ) → List Ordered → ℕ → ℕ → Bool → Word → Result (List ℕ) SpecFault → Type 0
BoundGives bytes names orderings arity at lower word =
    Follows (unless (not_binary arity at) (found word (ordering_named bytes orderings word))) (λ ordered. BoundsGive lower names at (Leads ordered.links))

-- ---- the bounds of sets

-- c is below all values of a set, and the greatest such value
pub record IsSetInf (n : ℕ) (le : ℕ → ℕ → Type 0) (set : List ℕ) (c : ℕ) : Type 0 where
  pub within : c < n
  pub bound : All (λ v. le c v) set
  pub greatest : (d : ℕ) → d < n → All (λ v. le d v) set → le d c

-- c is above all values of a set, and the least such value
pub record IsSetSup (n : ℕ) (le : ℕ → ℕ → Type 0) (set : List ℕ) (c : ℕ) : Type 0 where
  pub within : c < n
  pub bound : All (λ v. le v c) set
  pub least : (d : ℕ) → d < n → All (λ v. le v d) set → le c d

-- c is the greatest lower, or the least upper bound of a set
abbrev pub IsSetBound : Bool → ℕ → (ℕ → ℕ → Type 0) → List ℕ → ℕ → Type 0
IsSetBound true n le set c = IsSetInf n le set c
IsSetBound false n le set c = IsSetSup n le set c

-- Any two values have a bound, and the table has that of each nonempty set; or the first two values that have none are a fault,
-- as for operators.
abbrev pub SetBoundsGive : Bool → List (List ℕ) → ℕ → (ℕ → ℕ → Type 0) → Result (List ℕ) SpecFault → Type 0
SetBoundsGive lower names at le (Ok table) =
    let n = length names in
    ((row : ℕ) → row < n * n → HasBound lower n le row)
    × (length table ≡ 2 ^ n - 1) × ((index : ℕ) → index < 2 ^ n - 1 → IsSetBound lower n le (members_of n (index + 1)) (slice_index table index))
SetBoundsGive lower names at le (Err fault) = BoundsGive lower names at le (Err fault)

-- what the bounds of an ordering give for a quantifier
abbrev pub SetBoundGives : List ℕ → List (List ℕ) → List Ordered → ℕ → Bool → Word → Result (List ℕ) SpecFault → Type 0
SetBoundGives bytes names orderings at lower word =
    Follows (found word (ordering_named bytes orderings word)) (λ ordered. SetBoundsGive lower names at (Leads ordered.links))
