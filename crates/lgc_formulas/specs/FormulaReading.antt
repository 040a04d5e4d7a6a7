-- The readers of formulas, line by line as their grammar.
use Rattle.std.specs.Prelude.{ℕ, zero, suc, ◌-◌, Bool, true, List, [], ◌∷◌, Option}
use Rattle.lgc_grammar.specs.Reading.{Reader, one_at, allowed_at, refused_at, barred_at, nothing_at, map_at, ◌>>=◌, ◌>>◌, either_at, optional_at, growing_at}
use Rattle.lgc_grammar.specs.Seen.{seen_at}
use Rattle.lgc_grammar.specs.Unless.{unless_at}
use Rattle.lgc_values.specs.Logic.{operator_at}
use Rattle.lgc_syntax.specs.declared.fault.TheConstants.{WRONG_ARITY}
use Rattle.lgc_syntax.specs.declared.formula.Term.{Term}
use Rattle.lgc_syntax.specs.declared.formula.Formula.{Formula, Atom, Op, Quant}
use Rattle.lgc_tokens.specs.declared.class.Class.TheVariants.{Upper, OpenRound, CloseRound, Comma}
use Rattle.lgc_formulas.specs.declared.formula.Read.{Read}
use Rattle.lgc_formulas.specs.declared.formula.Formulas.{Formulas}
use Rattle.lgc_formulas.specs.declared.formula.TheConstants.{MOST_DEPTH}
use Rattle.lgc_formulas.specs.Named.{Named, text_of, operator_of, quantifier_of, is, is_number, is_quantifier, is_predicate, is_hash, starts_operator, starts_formula}
use Rattle.lgc_formulas.specs.Setting.{Setting, numbered}
use Rattle.lgc_formulas.specs.Faults.{formula_fault, depth_fault, let_of, number_fault}
use Rattle.lgc_formulas.specs.TermReading.{terms_at, term_at}
use Rattle.lgc_formulas.specs.FormulaGrammar.{as_whole, as_bare, with_formula, numbered_formula, ends_argument}

-- ---- operators, of one reader of formulas

module _ (p : ℕ → Reader Named Read) where
  -- k formulas behind these
  unfoldable pub more_operands_at : ℕ → Formulas → Reader Named (List Formula × ℕ)
  more_operands_at zero before ts =
      barred_at before.is_bare ends_argument WRONG_ARITY
      (either_at (is Comma) (refused_at (is Comma) (λ _. WRONG_ARITY)) (map_at (λ _. (before.list, before.nodes_left)) (one_at (is CloseRound)))) ts
  more_operands_at (suc k) before ts =
      barred_at before.is_bare ends_argument WRONG_ARITY
      (either_at (is CloseRound) (refused_at (is CloseRound) (λ _. WRONG_ARITY)) (do
        one_at (is Comma)
        x ← p before.nodes_left
        more_operands_at k (with_formula before.list x))) ts

  -- a formula and k behind it
  unfoldable pub operands_at : ℕ → ℕ → Reader Named (List Formula × ℕ)
  operands_at k many = do
    one_at (is OpenRound)
    x ← p many
    more_operands_at k (with_formula [] x)

  unfoldable pub behind_operator_at : ℕ → ℕ → ℕ → Reader Named Read
  behind_operator_at zero op many ts = optional_at (is OpenRound) (as_whole (Op op []) many) (refused_at (is OpenRound) (λ _. WRONG_ARITY)) ts
  behind_operator_at (suc k) op many ts = optional_at (is OpenRound) (as_bare op many) (map_at (λ x. as_whole (Op op x.0) x.1) (operands_at k many)) ts

  unfoldable pub operator_formula_at : Setting → (Named → Option ℕ) → ℕ → Reader Named Read
  operator_formula_at s fault many = do
    head ← allowed_at starts_operator fault
    behind_operator_at (operator_at s.logic (operator_of head.role)).arity (operator_of head.role) many

-- ---- quantifiers, of one reader of formulas, which is told the names in scope, too

unfoldable pub close_quantifier_at : ℕ → Read → Reader Named Read
close_quantifier_at quant body ts = barred_at body.is_bare (is CloseRound) WRONG_ARITY (do
  one_at (is CloseRound)
  nothing_at (as_whole (Quant quant body.formula) body.nodes_left)) ts

unfoldable pub quantifier_formula_at : (List (List ℕ) → ℕ → Reader Named Read) → (Named → Option ℕ) → List (List ℕ) → ℕ → Reader Named Read
quantifier_formula_at p fault names many = do
  head ← allowed_at is_quantifier fault
  one_at (is OpenRound)
  name ← one_at (is Upper)
  one_at (is Comma)
  body ← p (text_of name ∷ names) many
  close_quantifier_at (quantifier_of head.role) body

-- ---- formulas

unfoldable pub numbered_formula_at : Setting → (Named → Option ℕ) → ℕ → Reader Named Read
numbered_formula_at s fault many = do
  allowed_at (is_hash (numbered s)) fault
  number ← allowed_at is_number (number_fault s)
  nothing_at (numbered_formula (let_of s number) many)

-- the terms of an atom
unfoldable pub atom_terms_at : Bool → List (List ℕ) → ℕ → ℕ → Reader Named (List Term × ℕ)
atom_terms_at limited names deep many ts = seen_at (λ t. t.spelled) (terms_at (term_at limited names deep) many) ts

unfoldable pub atom_formula_at : Bool → List (List ℕ) → ℕ → (Named → Option ℕ) → ℕ → Reader Named Read
atom_formula_at limited names deep fault many = do
  head ← allowed_at is_predicate fault
  terms ← atom_terms_at limited names deep many
  nothing_at (as_whole (Atom (text_of head) terms.0) terms.1)

-- a formula where `deep` nodes are left on the way down and `many` in all
unfoldable pub formula_at : Setting → ℕ → List (List ℕ) → ℕ → Reader Named Read
formula_at s zero names many ts = refused_at (starts_formula (numbered s)) (depth_fault (formula_fault s 0 many)) ts
formula_at s (suc deep) names many ts =
    either_at starts_operator (operator_formula_at (formula_at s deep names) s (formula_fault s (suc deep) many) (many - 1))
    (either_at is_quantifier (quantifier_formula_at (formula_at s deep) (formula_fault s (suc deep) many) names (many - 1))
    (either_at (is_hash (numbered s)) (numbered_formula_at s (formula_fault s (suc deep) many) many)
    (atom_formula_at (numbered s) names deep (formula_fault s (suc deep) many) (many - 1)))) ts

-- a formula with no quantifier around it, which may be bare
unfoldable pub one_formula_at : Setting → ℕ → Reader Named Read
one_formula_at s many ts = formula_at s MOST_DEPTH [] many ts

-- a formula that is a whole text
unfoldable pub whole_formula_at : Setting → ℕ → Reader Named Read
whole_formula_at s many ts = unless_at (λ x. x.is_bare) (one_formula_at s many) ts

-- a formula in a larger text of which nothing is known: any token could go on behind it
unfoldable pub formula_here_at : Setting → ℕ → Reader Named Read
formula_here_at s many = do
  x ← one_formula_at s many
  barred_at x.is_bare (λ _. true) WRONG_ARITY (nothing_at x)

-- ---- lists of formulas, of one reader of formulas

module _ (p : ℕ → Reader Named Read) where
  unfoldable pub comma_formula_at : Formulas → Reader Named Formulas
  comma_formula_at before ts = barred_at before.is_bare (is Comma) WRONG_ARITY (do
    one_at (is Comma)
    map_at (with_formula before.list) (p before.nodes_left)) ts

  -- formulas behind these
  unfoldable pub more_formulas_at : Formulas → Reader Named Formulas
  more_formulas_at before ts = growing_at (is Comma) comma_formula_at before ts

  unfoldable pub formula_list_at : ℕ → Reader Named Formulas
  formula_list_at many = do
    first ← map_at (with_formula []) (p many)
    more_formulas_at first
