-- What the bytes of a formula give, and what the formula or the term gives that begins at a place among tokens.
use Rattle.std.specs.Prelude.{◌≡◌, ◌≤◌, ◌⊎◌, ℕ, true, List, None, Result, drop}
use Rattle.lgc_grammar.specs.Grammar.{Grammar, Mapped, Language}
use Rattle.lgc_grammar.specs.Among.{AnswersAmong}
use Rattle.lgc_grammar.specs.Reading.{Reader, map_at, whole}
use Rattle.lgc_values.specs.Logic.{Logic}
use Rattle.lgc_syntax.specs.declared.fault.InputFault.{InputFault}
use Rattle.lgc_syntax.specs.declared.fault.TheConstants.{BAD_BYTE, UNEXPECTED, TOO_LARGE}
use Rattle.lgc_syntax.specs.declared.formula.Formula.{Formula}
use Rattle.lgc_syntax.specs.declared.formula.Term.{Term}
use Rattle.lgc_tokens.specs.Spelled.{Spelled, place_of}
use Rattle.lgc_inputs.specs.Texts.{TextGives, IsTextOf}
use Rattle.lgc_inputs.specs.Told.{text_told}
use Rattle.lgc_inputs.specs.Places.{AccountGives}
use Rattle.lgc_formulas.specs.declared.formula.Read.{Read}
use Rattle.lgc_formulas.specs.declared.formula.TheConstants.{MOST_NODES}
use Rattle.lgc_formulas.specs.declared.read.TheConstants.{LONGEST_TEXT}
use Rattle.lgc_formulas.specs.declared.read.Parsed.{Parsed}
use Rattle.lgc_formulas.specs.Named.{Named, named_all}
use Rattle.lgc_formulas.specs.Setting.{Setting, setting_with}
use Rattle.lgc_formulas.specs.Faults.{IsTermFault, IsFormulaFault}
use Rattle.lgc_formulas.specs.TermGrammar.{Counted, OneTerm}
use Rattle.lgc_formulas.specs.PlainTerms.{PlainTerm}
use Rattle.lgc_formulas.specs.TermReading.{one_term_at}
use Rattle.lgc_formulas.specs.FormulaGrammar.{as_whole, WholeFormula}
use Rattle.lgc_formulas.specs.PlainFormulas.{PlainWholeFormula}
use Rattle.lgc_formulas.specs.FormulaReading.{whole_formula_at}
use Rattle.lgc_formulas.specs.FormulaPlaces.{FormulaGives}

-- the offset of the token
abbrev pub named_place : Named → ℕ
named_place t = place_of t.spelled

-- ---- whole texts

-- formulas of a text: quantifiers may stand, and formulas have no numbers
abbrev pub text_setting : Logic → Setting
text_setting logic = setting_with logic true None

abbrev pub TextFormula : Logic → Grammar Named Formula
TextFormula logic = Mapped (λ x. x.formula) (WholeFormula (text_setting logic) MOST_NODES)

abbrev pub PlainTextFormula : Logic → Language Named
PlainTextFormula logic = PlainWholeFormula (text_setting logic) MOST_NODES

-- What the bytes give.
abbrev pub FormulaTextGives : Logic → List ℕ → Result Formula InputFault → Type 0
FormulaTextGives logic bytes told = TextGives named_place (named_all logic bytes) (TextFormula logic) (PlainTextFormula logic) LONGEST_TEXT bytes told

-- The bytes are those of the formula.
abbrev pub IsFormulaText : Logic → List ℕ → Formula → Type 0
IsFormulaText logic bytes f = IsTextOf (named_all logic bytes) (TextFormula logic) LONGEST_TEXT bytes f

-- the numbers of the faults of a text: 2 to 9
abbrev pub IsTextFault : ℕ → Type 0
IsTextFault number = (BAD_BYTE ≤ number) × (number ≤ TOO_LARGE)

abbrev pub text_formula_at : Logic → Reader Named Formula
text_formula_at logic = map_at (λ x. x.formula) (whole_formula_at (text_setting logic) MOST_NODES)

-- The formula of the bytes, or its first fault, as a function: the one answer that `FormulaTextGives` allows.
abbrev pub formula_text_read : Logic → List ℕ → Result Formula InputFault
formula_text_read logic bytes = text_told named_place (named_all logic bytes) (whole (text_formula_at logic)) LONGEST_TEXT bytes

-- ---- formulas at a place

-- a formula that was read there, and the tokens behind it
abbrev pub parsed : List Named → Parsed → Read × List Named
parsed ts x = (as_whole x.formula x.nodes_left, drop x.next ts)

-- What the tokens from the place `at` on give, where `many` nodes are left.
abbrev pub ParsedGives : Setting → ℕ → ℕ → List Named → ℕ → Result Parsed InputFault → Type 0
ParsedGives s many end ts at told = AccountGives named_place (FormulaGives s many) end (parsed ts) (drop at ts) told

-- the numbers of the faults of a formula that begins among tokens: 4 to 9, 13 where quantifiers may not stand, 15 where formulas have
-- numbers
abbrev pub IsParsedFault : Setting → ℕ → Type 0
IsParsedFault s number = (number ≡ UNEXPECTED) ⊎ IsFormulaFault s number

-- ---- terms at a place

-- What the tokens from the place `at` on give, where an answer is seen by view.
abbrev pub TermGives : {X : Type 0} → (X → Counted Term × List Spelled) → ℕ → ℕ → List Spelled → ℕ → Result X InputFault → Type 0
TermGives view many end ts at told = AccountGives place_of (AnswersAmong (OneTerm many) PlainTerm) end view (drop at ts) told

-- the numbers of the faults of a term that begins among tokens: 4, and 7 to 9
abbrev pub IsTermPlaceFault : ℕ → Type 0
IsTermPlaceFault number = (number ≡ UNEXPECTED) ⊎ IsTermFault number

-- ---- terms with 1,000 nodes at a place, without those that are left

abbrev pub LoneTerm : Grammar Spelled Term
LoneTerm = Mapped (λ x. x.0) (OneTerm MOST_NODES)

abbrev pub lone_term_at : Reader Spelled Term
lone_term_at = map_at (λ x. x.0) (one_term_at MOST_NODES)

-- What the tokens from the place `at` on give.
abbrev pub LoneTermGives : ℕ → List Spelled → ℕ → Result (Term × ℕ) InputFault → Type 0
LoneTermGives end ts at told = AccountGives place_of (AnswersAmong LoneTerm PlainTerm) end (λ x. (x.0, drop x.1 ts)) (drop at ts) told
