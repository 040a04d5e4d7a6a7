-- Sequents over numbers of formulas: pairs of a number and a sign.
use Rattle.std.specs.Prelude.{◌≡◌, ◌<◌, ℕ, ◌+◌, ◌==◌, ◌||◌, ◌&&◌, not, Bool, true, List, [], ◌∷◌, All, AllPairs, map, slice_get, Some, nat_lt, if◌then◌else◌}
use Rattle.std.specs.List.{list_any}
use Rattle.lgc_values.specs.Values.{IsSize, has}
use Rattle.lgc_sequents.specs.Signed.{SignedFormula}
use Rattle.lgc_sequents.specs.Sequents.{IsSign, union, has_all}
use Rattle.lgc_syntax.specs.declared.formula.Formula.{Formula}
use Rattle.lgc_numbering.specs.Numbering.{formula_at}

-- what is asked of a packed sequent: the numbers rise, and each sign is a set with members
pub record IsPacked (n : ℕ) (pairs : List (ℕ × List ℕ)) : Type 0 where
  pub sized : IsSize n
  pub rising : AllPairs (λ a b. a.0 < b.0) pairs
  pub signs : All (λ pair. IsSign n pair.1) pairs

-- whether the value w stands on the formula with the number k
abbrev pub marks : List (ℕ × List ℕ) → ℕ → ℕ → Bool
marks pairs k w = list_any (λ pair. (pair.0 == k) && has pair.1 w) pairs

-- whether each value below n that stands on a formula in the first stands on it in the other
abbrev pub IsIncluded : ℕ → List (ℕ × List ℕ) → List (ℕ × List ℕ) → Type 0
IsIncluded n pairs others = (k w : ℕ) → w < n → marks pairs k w ≡ true → marks others k w ≡ true

-- whether some formula has its value in its sign, where numbered formulas have these values
abbrev pub is_true_of : (ℕ → ℕ) → List (ℕ × List ℕ) → Bool
is_true_of value pairs = list_any (λ pair. has pair.1 (value pair.0)) pairs

-- whether some formula carries all values
abbrev pub is_full : ℕ → List (ℕ × List ℕ) → Bool
is_full n pairs = list_any (λ pair. has_all n pair.1) pairs

-- the formula at a place carries all values
pub record IsFullAt (n : ℕ) (pairs : List (ℕ × List ℕ)) (at : ℕ) : Type 0 where
  pub number : ℕ
  pub sign : List ℕ
  pub is : slice_get pairs at ≡ Some (number, sign)
  pub full : has_all n sign ≡ true

-- ---- joining signs

-- a sign joined to that of a formula, at its place
abbrev pub joined : ℕ → ℕ → List ℕ → List (ℕ × List ℕ) → List (ℕ × List ℕ)
joined n k sign [] = (k, sign) ∷ []
joined n k sign (pair ∷ pairs) = if nat_lt pair.0 k then pair ∷ joined n k sign pairs else (if pair.0 == k then (k, union n pair.1 sign) ∷ pairs else (k, sign) ∷ pair ∷ pairs)

-- with a sign added to that of a formula; an empty sign adds nothing
abbrev pub added : ℕ → ℕ → List ℕ → List (ℕ × List ℕ) → List (ℕ × List ℕ)
added n k [] pairs = pairs
added n k (v ∷ sign) pairs = joined n k (v ∷ sign) pairs

-- with the signs of further pairs added, in their order
abbrev pub added_all : ℕ → List (ℕ × List ℕ) → List (ℕ × List ℕ) → List (ℕ × List ℕ)
added_all n [] pairs = pairs
added_all n (other ∷ others) pairs = added_all n others (added n other.0 other.1 pairs)

-- Whether the value w stands on the formula with the number k in one of two sequents, or in one and not in the other.
abbrev pub marks_either : List (ℕ × List ℕ) → List (ℕ × List ℕ) → ℕ → ℕ → Bool
marks_either pairs others k w = marks pairs k w || marks others k w

abbrev pub marks_besides : List (ℕ × List ℕ) → List (ℕ × List ℕ) → ℕ → ℕ → Bool
marks_besides pairs others k w = marks pairs k w && not (marks others k w)

-- ---- formulas

-- the sum of the weights of numbered formulas
abbrev pub total : (ℕ → ℕ) → List ℕ → ℕ
total weight [] = 0
total weight (k ∷ numbers) = weight k + total weight numbers

-- the sum of the weights of a sequent's formulas
abbrev pub weight_of : (ℕ → ℕ) → List (ℕ × List ℕ) → ℕ
weight_of weight pairs = total weight (map (λ pair. pair.0) pairs)

-- the items of a packed sequent, where these are the formulas
abbrev pub unpacked : List Formula → List (ℕ × List ℕ) → List SignedFormula
unpacked formulas pairs = map (λ pair. record { formula = formula_at formulas pair.0; sign = pair.1 }) pairs
