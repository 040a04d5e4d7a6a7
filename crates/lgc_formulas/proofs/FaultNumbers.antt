-- Which rules the tokens of terms and formulas can break.
use Rattle.std.proofs.Common.{◌≡◌, ◌-◌, ℕ, zero, suc, Bool, true, false, List, [], ◌∷◌, Option, Some, None, Err, inl, inr, refl, arith}
use Rattle.std.specs.Prelude.{◌&&◌, not, unwrap_or}
use Rattle.lgc_grammar.specs.Grammar.{Grammar, fault_if}
use Rattle.lgc_grammar.proofs.BrokenRules.{Only, only_one, only_nothing, only_told, only_refused, only_barred, only_seen, only_unless, only_mapped, only_then, only_either, only_growing}
use Rattle.lgc_values.specs.Logic.{operator_at}
use Rattle.lgc_syntax.specs.declared.fault.TheConstants.{UNKNOWN_NAME, WRONG_ARITY, RESERVED_NAME, TOO_DEEP, TOO_LARGE, NOT_PROPOSITIONAL, UNKNOWN_NUMBER}
use Rattle.lgc_syntax.specs.declared.formula.Term.{Term, Apply}
use Rattle.lgc_syntax.specs.declared.formula.Formula.{Atom, Op, Quant}
use Rattle.lgc_tokens.specs.declared.class.Class.TheVariants.{Upper, Hash, OpenRound, CloseRound, Comma}
use Rattle.lgc_tokens.specs.Spelled.{Spelled}
use Rattle.lgc_tokens.specs.Classes as tokens
use Rattle.lgc_formulas.specs.declared.formula.Read.{Read}
use Rattle.lgc_formulas.specs.declared.formula.TheConstants.{MOST_DEPTH}
use Rattle.lgc_formulas.specs.Named.{Named, text_of, operator_of, quantifier_of, is, is_quantifier, is_predicate, starts_operator, starts_formula}
use Rattle.lgc_formulas.specs.Setting.{Setting, numbered}
use Rattle.lgc_formulas.specs.Faults.{first_broken, depth_fault, term_fault, formula_fault, IsTermFault, IsFormulaFault}
use Rattle.lgc_formulas.specs.TermGrammar.{Counted, with_term, variable, Terms, TermPhrase}
use Rattle.lgc_formulas.specs.declared.formula.Formulas.{Formulas}
use Rattle.lgc_formulas.specs.FormulaGrammar.{as_whole, as_bare, with_formula, MoreOperands, BehindOperator, CloseQuantifier, NumberedFormula, FormulaPhrase, WholeFormula}

-- ---- tables

term_told : (a b c : Bool) (n : ℕ) → first_broken ((a, RESERVED_NAME) ∷ ((b, TOO_DEEP) ∷ ((c, TOO_LARGE) ∷ []))) ≡ Some n → IsTermFault n
term_told true b c n e = let same : RESERVED_NAME ≡ n = cc in omega (arith, same)
term_told false true c n e = let same : TOO_DEEP ≡ n = cc in omega (arith, same)
term_told false false true n e = let same : TOO_LARGE ≡ n = cc in omega (arith, same)
term_told false false false n e = absurd cc

not_second : (a b : Bool) → (a && not b) ≡ true → b ≡ false
not_second true true e = absurd cc
not_second true false e = refl
not_second false b e = absurd cc

first : (a b : Bool) → (a && b) ≡ true → a ≡ true
first true b e = refl
first false b e = absurd cc

formula_told : (s : Setting) (a b c shown : Bool) (n : ℕ) → first_broken ((a, UNKNOWN_NAME) ∷ ((b, TOO_DEEP) ∷ ((c, TOO_LARGE) ∷ ((shown && not s.quantified, NOT_PROPOSITIONAL) ∷ [])))) ≡ Some n → IsFormulaFault s n
formula_told s true b c shown n e = let same : UNKNOWN_NAME ≡ n = cc in inl (omega (arith, same))
formula_told s false true c shown n e = let same : TOO_DEEP ≡ n = cc in inl (omega (arith, same))
formula_told s false false true shown n e = let same : TOO_LARGE ≡ n = cc in inl (omega (arith, same))
formula_told s false false false shown n e = by (shown && not s.quantified) refl e
  where
    by : (b : Bool) → (shown && not s.quantified) ≡ b → first_broken ((b, NOT_PROPOSITIONAL) ∷ []) ≡ Some n → IsFormulaFault s n
    by true is f = let same : NOT_PROPOSITIONAL ≡ n = cc in inr (inl (omega (arith, same), not_second shown s.quantified is))
    by false is f = absurd cc

-- where no node is left on the way down
deep_told : {Q : ℕ → Type 0} (told : Option ℕ) → ((n : ℕ) → told ≡ Some n → Q n) → Q TOO_DEEP → Q (unwrap_or told TOO_DEEP)
deep_told (Some n) each deep = each n refl
deep_told None each deep = deep

-- ---- terms

head_told : (limited : Bool) (names : List (List ℕ)) (deep many : ℕ) (t : Spelled) (n : ℕ) → term_fault limited names deep many t ≡ Some n → IsTermFault n
head_told limited names deep many t n e = term_told _ _ _ n e

module _ {L : ℕ → Grammar Spelled (Counted Term)} (each : (many : ℕ) → Only IsTermFault (L many)) where
  terms_only : (many : ℕ) → Only IsTermFault (Terms L many)
  terms_only many =
      only_either
      (only_then (only_one _) (λ _.
      only_then (only_mapped (with_term ([], many)) (each many)) (λ first.
      only_then (only_growing first (λ terms. only_then (only_one _) (λ _. only_mapped (with_term terms) (each terms.1)))) (λ terms.
      only_then (only_one _) (λ _. only_nothing terms)))))
      (only_nothing ([], many))

pub term_only : (limited : Bool) (names : List (List ℕ)) (deep many : ℕ) → Only IsTermFault (TermPhrase limited names deep many)
term_only limited names zero many = only_refused tokens.starts_term (depth_fault (term_fault limited names 0 many)) (λ t. deep_told (term_fault limited names 0 many t) (head_told limited names 0 many t) (omega arith))
term_only limited names (suc deep) many =
    only_either
    (only_mapped (λ head. (variable names head.text, many - 1)) (only_told (tokens.is Upper) (term_fault limited names (suc deep) many) (head_told limited names (suc deep) many)))
    (only_then (only_told tokens.is_word (term_fault limited names (suc deep) many) (head_told limited names (suc deep) many)) (λ head.
    only_then (terms_only (term_only limited names deep) (many - 1)) (λ terms.
    only_nothing (Apply head.text terms.0, terms.1))))

-- ---- formulas

module _ (s : Setting) where
  of_term : {A : Type 0} {L : Grammar Spelled A} → Only IsTermFault L → Only (IsFormulaFault s) L
  of_term g = record { only = λ n ts h. let small : IsTermFault n = g.only n ts h in inl (omega (arith, small)) }

  arity_told : IsFormulaFault s WRONG_ARITY
  arity_told = inl (omega arith)

  start_told : (deep many : ℕ) (t : Named) (n : ℕ) → formula_fault s deep many t ≡ Some n → IsFormulaFault s n
  start_told deep many t n e = formula_told s _ _ _ _ n e

  module _ {L : ℕ → Grammar Named Read} (each : (many : ℕ) → Only (IsFormulaFault s) (L many)) where
    more_operands_only : (k : ℕ) (before : Formulas) → Only (IsFormulaFault s) (MoreOperands L k before)
    more_operands_only zero before =
        only_barred before.is_bare _ WRONG_ARITY arity_told
        (only_either (only_refused (is Comma) (λ _. WRONG_ARITY) (λ _. arity_told)) (only_mapped (λ _. (before.list, before.nodes_left)) (only_one _)))
    more_operands_only (suc k) before =
        only_barred before.is_bare _ WRONG_ARITY arity_told
        (only_either (only_refused (is CloseRound) (λ _. WRONG_ARITY) (λ _. arity_told))
        (only_then (only_one _) (λ _. only_then (each before.nodes_left) (λ x. more_operands_only k (with_formula before.list x)))))

    behind_operator_only : (arity op many : ℕ) → Only (IsFormulaFault s) (BehindOperator L arity op many)
    behind_operator_only zero op many = only_either (only_refused (is OpenRound) (λ _. WRONG_ARITY) (λ _. arity_told)) (only_nothing (as_whole (Op op []) many))
    behind_operator_only (suc k) op many =
        only_either
        (only_mapped (λ x. as_whole (Op op x.0) x.1) (only_then (only_one _) (λ _. only_then (each many) (λ x. more_operands_only k (with_formula [] x)))))
        (only_nothing (as_bare op many))

  close_quantifier_only : (quant : ℕ) (body : Read) → Only (IsFormulaFault s) (CloseQuantifier quant body)
  close_quantifier_only quant body = only_barred body.is_bare _ WRONG_ARITY arity_told (only_then (only_one _) (λ _. only_nothing (as_whole (Quant quant body.formula) body.nodes_left)))

  -- the number behind a # is asked for where formulas have numbers
  numbered_only : (deep many : ℕ) → Only (IsFormulaFault s) (NumberedFormula s (formula_fault s deep many) many)
  numbered_only deep many = record { only = by }
    where
      told : (b : Bool) (n : ℕ) → fault_if b UNKNOWN_NUMBER ≡ Some n → n ≡ UNKNOWN_NUMBER
      told true n e = cc
      told false n e = absurd cc

      by : (n : ℕ) (ts : List Named) → NumberedFormula s (formula_fault s deep many) many (Err n) ts → IsFormulaFault s n
      by n ts (inl (t, passes, breaks, one)) = start_told deep many t n breaks
      by n ts (inr (t, v, w, (passes, none, one), inl (u, number, breaks, e), split)) = inr (inr (told _ n breaks, first (numbered s) (is Hash t) passes))
      by n ts (inr (t, v, w, (passes, none, one), inr (u, x, y, is, h, e), split)) = absurd h

  pub formula_only : (deep : ℕ) (names : List (List ℕ)) (many : ℕ) → Only (IsFormulaFault s) (FormulaPhrase s deep names many)
  formula_only zero names many = only_refused (starts_formula (numbered s)) (depth_fault (formula_fault s 0 many)) (λ t. deep_told (formula_fault s 0 many t) (start_told 0 many t) (inl (omega arith)))
  formula_only (suc deep) names many =
      only_either
      (only_then (only_told starts_operator (formula_fault s (suc deep) many) (start_told (suc deep) many)) (λ head.
      behind_operator_only (formula_only deep names) (operator_at s.logic (operator_of head.role)).arity (operator_of head.role) (many - 1)))
      (only_either
      (only_then (only_told is_quantifier (formula_fault s (suc deep) many) (start_told (suc deep) many)) (λ head.
      only_then (only_one _) (λ _.
      only_then (only_one _) (λ name.
      only_then (only_one _) (λ _.
      only_then (formula_only deep (text_of name ∷ names) (many - 1)) (λ body.
      close_quantifier_only (quantifier_of head.role) body))))))
      (only_either (numbered_only (suc deep) many)
      (only_then (only_told is_predicate (formula_fault s (suc deep) many) (start_told (suc deep) many)) (λ head.
      only_then (only_seen (λ (t : Named). t.spelled) (of_term (terms_only (term_only (numbered s) names deep) (many - 1)))) (λ terms.
      only_nothing (as_whole (Atom (text_of head) terms.0) terms.1))))))

pub whole_formula_only : (s : Setting) (many : ℕ) → Only (IsFormulaFault s) (WholeFormula s many)
whole_formula_only s many = only_unless (λ x. x.is_bare) (formula_only s MOST_DEPTH [] many)
