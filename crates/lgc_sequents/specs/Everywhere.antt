-- Sequents that are true under every valuation, and valuations under which one is false.
use Rattle.std.specs.Prelude.{◌≡◌, ◌<◌, ℕ, true, false, List, All}
use Rattle.lgc_values.specs.Logic.{Logic}
use Rattle.lgc_syntax.specs.declared.formula.Formula.{Formula}
use Rattle.lgc_syntax.specs.Fits.{Fits}
use Rattle.lgc_syntax.specs.Values.{listed, value, IsValuation}
use Rattle.lgc_sequents.specs.Signed.{SignedFormula}
use Rattle.lgc_sequents.specs.Sequents.{is_true_at}

-- a sequent is true under every valuation
abbrev pub IsTrueEverywhere : Logic → List SignedFormula → Type 0
IsTrueEverywhere logic sequent = (v : Formula → ℕ) → IsValuation logic v → is_true_at (value logic v) sequent ≡ true

-- formulas of the logic with truth values, under which a sequent is false
pub record IsCounterexample (logic : Logic) (sequent : List SignedFormula) (entries : List (Formula × ℕ)) : Type 0 where
  pub fit : All (λ entry. Fits logic entry.0 × (entry.1 < logic.size)) entries
  pub fails : is_true_at (value logic (listed entries)) sequent ≡ false
