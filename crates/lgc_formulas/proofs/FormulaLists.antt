-- Lists of formulas, and what is read behind a formula or a list: a bare formula is barred by what may follow it there.
use Rattle.std.proofs.Common.{◌≡◌, ℕ, Bool, true, false, [], ◌∷◌, refl}
use Rattle.std.specs.Prelude.{◌||◌}
use Rattle.lgc_grammar.specs.Grammar.{Grammar, Language, Then, Barred, Growing, PlainThen, PlainMany, IsFront}
use Rattle.lgc_grammar.specs.Reading.{Reader, then_at, barred_at}
use Rattle.lgc_grammar.proofs.Readers.{Reads, Must, May, or_right}
use Rattle.lgc_grammar.proofs.Basic.{map_reads}
use Rattle.lgc_grammar.proofs.Sequences.{then_reads, then_reads_if}
use Rattle.lgc_grammar.proofs.RefusedTokens.{barred_reads}
use Rattle.lgc_grammar.proofs.GrowingTrees.{growing_reads}
use Rattle.lgc_syntax.specs.declared.fault.TheConstants.{WRONG_ARITY}
use Rattle.lgc_tokens.specs.declared.class.Class.TheVariants.{OpenRound, Comma}
use Rattle.lgc_tokens.specs.Classes.{same}
use Rattle.lgc_formulas.specs.declared.formula.Read.{Read}
use Rattle.lgc_formulas.specs.declared.formula.Formulas.{Formulas}
use Rattle.lgc_formulas.specs.Named.{Named, is, starts_formula}
use Rattle.lgc_formulas.specs.FormulaGrammar.{with_formula, CommaFormula, FormulaList}
use Rattle.lgc_formulas.specs.PlainFormulas.{PlainFormula, PlainCommaFormula, PlainFormulaList}
use Rattle.lgc_formulas.specs.FormulaReading.{comma_formula_at, more_formulas_at, formula_list_at}
use Rattle.lgc_formulas.proofs.Tables.{off_class, operator_token, one}
use Rattle.lgc_formulas.proofs.FormulaReads.{a_formula}

-- what may go on a list
abbrev pub goes_on : Named → Bool
goes_on t = is Comma t || is OpenRound t

module _ (numbered : Bool) {p : ℕ → Reader Named Read} {L : ℕ → Grammar Named Read} (reads : (many : ℕ) → Reads (p many) (L many) (PlainFormula numbered) (Must (starts_formula numbered)) (is OpenRound)) where
  pub comma_formula_reads : (before : Formulas) → Reads (comma_formula_at p before) (CommaFormula L before) (PlainCommaFormula numbered) (Must (is Comma)) (is OpenRound)
  unfolding comma_formula_at
  comma_formula_reads before =
      barred_reads before.is_bare WRONG_ARITY (then_reads (one Comma) (λ _. map_reads (with_formula before.list) (reads before.nodes_left)))
      (λ t h. (operator_token ∷ [], (t ∷ [], operator_token ∷ [], (t, (h, refl)), a_formula numbered, refl)))

  more_formulas_read : (before : Formulas) → Reads (more_formulas_at p before) (Growing (CommaFormula L) before) (PlainMany (PlainCommaFormula numbered)) (May (is Comma)) goes_on
  unfolding more_formulas_at
  more_formulas_read before = growing_reads comma_formula_reads (off_class (same Comma) (same OpenRound) refl) before

  pub formula_list_reads : (many : ℕ) → Reads (formula_list_at p many) (FormulaList L many) (PlainFormulaList numbered) (Must (starts_formula numbered)) goes_on
  unfolding formula_list_at
  formula_list_reads many =
      then_reads_if (map_reads (with_formula []) (reads many)) (λ first. more_formulas_read first)
      ((off_class (same Comma) (same OpenRound) refl), (λ t h. or_right (is Comma t) (is OpenRound t) h))

  -- What is read behind a formula, where it begins with tokens that can't go on a formula: each of them begins a plain phrase.
  pub behind_formula_reads : {A : Type 0} {q : Read → Reader Named A} {M : Read → Grammar Named A} {Q : Language Named} {first next : Named → Bool} → ((x : Read) → Reads (q x) (M x) Q (Must first) next) → ((t : Named) → first t ≡ true → IsFront Q (t ∷ [])) → ((t : Named) → first t ≡ true → is OpenRound t ≡ false) → (many : ℕ) → Reads (then_at (p many) (λ x. barred_at x.is_bare first WRONG_ARITY (q x))) (Then (L many) (λ x. Barred x.is_bare first WRONG_ARITY (M x))) (PlainThen (PlainFormula numbered) Q) (Must (starts_formula numbered)) next
  behind_formula_reads behind each_token ends many = then_reads_if (reads many) (λ x. barred_reads x.is_bare WRONG_ARITY (behind x) each_token) ends

  -- The same behind a list, where it begins with tokens that can't go on a list.
  pub behind_list_reads : {A : Type 0} {q : Formulas → Reader Named A} {M : Formulas → Grammar Named A} {Q : Language Named} {first next : Named → Bool} → ((list : Formulas) → Reads (q list) (M list) Q (Must first) next) → ((t : Named) → first t ≡ true → IsFront Q (t ∷ [])) → ((t : Named) → first t ≡ true → goes_on t ≡ false) → (many : ℕ) → Reads (then_at (formula_list_at p many) (λ list. barred_at list.is_bare first WRONG_ARITY (q list))) (Then (FormulaList L many) (λ list. Barred list.is_bare first WRONG_ARITY (M list))) (PlainThen (PlainFormulaList numbered) Q) (Must (starts_formula numbered)) next
  behind_list_reads behind each_token ends many = then_reads_if (formula_list_reads many) (λ list. barred_reads list.is_bare WRONG_ARITY (behind list) each_token) ends
