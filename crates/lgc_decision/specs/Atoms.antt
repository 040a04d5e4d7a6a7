-- Valuations that tell the values of numbered atoms.
use Rattle.std.specs.Prelude.{◌≡◌, ◌<◌, ℕ, true, List, All, slice_get, slice_index, Some}
use Rattle.lgc_syntax.specs.declared.formula.Formula.{Formula}
use Rattle.lgc_syntax.specs.Values.{listed}
use Rattle.lgc_meaning.specs.Valuations.{is_atom}

-- an entry is of a formula with a number below n, with the value that a list has at the number
pub record IsEntryBelow (n : ℕ) (formulas : List Formula) (values : List ℕ) (entry : Formula × ℕ) : Type 0 where
  pub number : ℕ
  pub below : number < n
  pub formula : slice_get formulas number ≡ Some entry.0
  pub value : entry.1 ≡ slice_index values number

-- a valuation has an entry for each atom with a number below n, and no others
pub record HasAtomsBelow (n : ℕ) (formulas : List Formula) (values : List ℕ) (entries : List (Formula × ℕ)) : Type 0 where
  pub each : All (IsEntryBelow n formulas values) entries
  pub atoms : (k : ℕ) (f : Formula) → k < n → slice_get formulas k ≡ Some f → is_atom f ≡ true → listed entries f ≡ slice_index values k
