-- Signed formulas.
use Rattle.std.specs.Prelude.{ℕ, List, refl}
use Rattle.std.specs.Coded.{Coded, code_by, coded×, coded_ℕ, coded_list}
use Rattle.lgc_syntax.specs.declared.formula.Formula.{Formula}
use Rattle.lgc_syntax.specs.contracts.formula.Formula as formula

-- a formula with a sign, which is a set of truth values as a rising list
pub record SignedFormula : Type 0 where
  pub formula : Formula
  pub sign : List ℕ

-- a signed formula is stored as the pair of its fields
abbrev pub signed_code : Coded SignedFormula
signed_code = code_by (Formula × List ℕ) (coded× formula.the_row.coded (coded_list coded_ℕ)) (λ item. (item.formula, item.sign)) (λ pair. record { formula = pair.0; sign = pair.1 }) (λ _. refl)
