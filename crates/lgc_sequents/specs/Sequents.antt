-- Signed formulas and sequents: signs, inclusion, axioms and truth.
use Rattle.std.specs.Prelude.{◌≡◌, ◌≢◌, ℕ, ◌<◌, ◌||◌, Bool, true, List, [], ◌∷◌, All, AllPairs, if◌then◌else◌}
use Rattle.std.specs.List.{list_all, list_any}
use Rattle.lgc_values.specs.Values.{IsSize, values_where, has}
use Rattle.lgc_syntax.specs.declared.formula.Formula.{Formula}
use Rattle.lgc_syntax.specs.Equality.{same_formula}
use Rattle.lgc_sequents.specs.Signed.{SignedFormula}

-- ---- sets of truth values

-- a rising list of values below n
abbrev pub IsSet : ℕ → List ℕ → Type 0
IsSet n set = set ≡ values_where n (has set)

-- the values that are in either set
abbrev pub union : ℕ → List ℕ → List ℕ → List ℕ
union n a b = values_where n (λ v. has a v || has b v)

-- whether each value below n is a member
abbrev pub has_all : ℕ → List ℕ → Bool
has_all n set = list_all (has set) (values_where n (λ _. true))

-- ---- sequents

-- a sign in a sequent: a set of values below n, with members
pub record IsSign (n : ℕ) (sign : List ℕ) : Type 0 where
  pub set : IsSet n sign
  pub nonempty : sign ≢ []

-- what is asked of a sequent, given by its items: no formula stands twice
pub record IsSequent (n : ℕ) (items : List SignedFormula) : Type 0 where
  pub sized : IsSize n
  pub signs : All (λ item. IsSign n item.sign) items
  pub distinct : AllPairs (λ a b. a.formula ≢ b.formula) items

-- the sign of a formula, empty where it doesn't occur
abbrev pub sign_in : List SignedFormula → Formula → List ℕ
sign_in [] f = []
sign_in (item ∷ items) f = if same_formula f item.formula then item.sign else sign_in items f

-- whether a formula occurs
abbrev pub occurs : List SignedFormula → Formula → Bool
occurs items f = list_any (λ item. same_formula f item.formula) items

-- the items with a sign joined to that of a formula, which stands last where it didn't occur
abbrev pub joined : ℕ → List SignedFormula → Formula → List ℕ → List SignedFormula
joined n [] f sign = record { formula = f; sign = sign } ∷ []
joined n (item ∷ items) f sign = if same_formula f item.formula then record item { sign = union n item.sign sign } ∷ items else item ∷ joined n items f sign

-- the items with a signed formula added; an empty sign adds nothing
abbrev pub added : ℕ → List SignedFormula → Formula → List ℕ → List SignedFormula
added n items f [] = items
added n items f (v ∷ sign) = joined n items f (v ∷ sign)

-- whether each value of each item's sign lies in the sign that the item's formula has in the other sequent
abbrev pub is_included : List SignedFormula → List SignedFormula → Bool
is_included items others = list_all (λ item. list_all (has (sign_in others item.formula)) item.sign) items

-- whether some formula carries all values
abbrev pub is_axiom : ℕ → List SignedFormula → Bool
is_axiom n items = list_any (λ item. has_all n item.sign) items

-- ---- truth

-- Whether a sequent is true where formulas have these values: under a valuation, or in a structure under an assignment. It is where the
-- value of some item's formula lies in the item's sign. The empty sequent never is.
abbrev pub is_true_at : (Formula → ℕ) → List SignedFormula → Bool
is_true_at value items = list_any (λ item. has item.sign (value item.formula)) items

-- each formula has a truth value below n
abbrev pub HasValues : ℕ → (Formula → ℕ) → Type 0
HasValues n value = (f : Formula) → value f < n
