-- A sequent over numbers, and the sequent whose formulas have these numbers.
use Rattle.std.specs.Prelude.{◌≡◌, ◌<◌, ℕ, List, All, IsPermutation, length}
use Rattle.lgc_sequents.specs.Signed.{SignedFormula}
use Rattle.lgc_syntax.specs.declared.formula.Formula.{Formula}
use Rattle.lgc_sequents.specs.Sequents.{is_true_at}
use Rattle.lgc_numbering.specs.Numbering.{formula_at}
use Rattle.lgc_packed.specs.Packed.{is_true_of, unpacked}

-- the numbers are those of formulas
abbrev pub AreKnown : List Formula → List (ℕ × List ℕ) → Type 0
AreKnown formulas pairs = All (λ pair. pair.0 < length formulas) pairs

-- for each item there is the pair of its formula's number and its sign, and no other
pub record IsPackOf (formulas : List Formula) (items : List SignedFormula) (pairs : List (ℕ × List ℕ)) : Type 0 where
  pub known : AreKnown formulas pairs
  pub same : IsPermutation items (unpacked formulas pairs)

-- it is true where the items are, whatever values the formulas have
abbrev pub IsTrueAs : List Formula → List SignedFormula → List (ℕ × List ℕ) → Type 0
IsTrueAs formulas items pairs = (value : Formula → ℕ) → is_true_at value items ≡ is_true_of (λ k. value (formula_at formulas k)) pairs
