-- What it means that the text of a formula or of a term is read back as the same.
use Rattle.std.specs.Prelude.{◌≤◌, ℕ, List, length}
use Rattle.lgc_values.specs.Logic.{Logic}
use Rattle.lgc_syntax.specs.declared.formula.Term.{Term}
use Rattle.lgc_syntax.specs.declared.formula.Formula.{Formula}
use Rattle.lgc_tokens.specs.Spelled.{spelled_all}
use Rattle.lgc_inputs.specs.Texts.{IsTextOf}
use Rattle.lgc_formulas.specs.Named.{named_all}
use Rattle.lgc_formulas.specs.FormulaTexts.{TextFormula, LoneTerm}

-- The grammar of whole formulas derives this one from the bytes, whatever limit they keep. At the limit of `read_formula` that is
-- `IsFormulaText`.
abbrev pub IsReadAsFormula : Logic → List ℕ → Formula → Type 0
IsReadAsFormula logic bytes f = (limit : ℕ) → length bytes ≤ limit → IsTextOf (named_all logic bytes) (TextFormula logic) limit bytes f

-- The grammar of terms derives this one.
abbrev pub IsReadAsTerm : List ℕ → Term → Type 0
IsReadAsTerm bytes t = (limit : ℕ) → length bytes ≤ limit → IsTextOf (spelled_all bytes) LoneTerm limit bytes t
