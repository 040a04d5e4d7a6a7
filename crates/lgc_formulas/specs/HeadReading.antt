-- The readers of formulas from their first token on: what a formula begins with, and what is read behind it.
use Rattle.std.specs.Prelude.{ℕ, ◌-◌, Bool, true, false, List, ◌∷◌}
use Rattle.lgc_grammar.specs.Reading.{Reader, one_at, allowed_at, nothing_at, map_at, ◌>>=◌, ◌>>◌}
use Rattle.lgc_values.specs.Logic.{operator_at}
use Rattle.lgc_syntax.specs.declared.formula.Formula.{Atom}
use Rattle.lgc_tokens.specs.declared.class.Class.TheVariants.{Upper, OpenRound, Comma}
use Rattle.lgc_formulas.specs.declared.role.Role.{Role}
use Rattle.lgc_formulas.specs.declared.role.Role.TheVariants.{Operator, Quantifier, Neither}
use Rattle.lgc_formulas.specs.declared.formula.Read.{Read}
use Rattle.lgc_formulas.specs.declared.formula.Head.{Head}
use Rattle.lgc_formulas.specs.declared.formula.Head.TheVariants as head
use Rattle.lgc_formulas.specs.Named.{Named, text_of, is, is_number, is_hash, starts_formula}
use Rattle.lgc_formulas.specs.Setting.{Setting, numbered}
use Rattle.lgc_formulas.specs.Faults.{formula_fault, let_of, number_fault}
use Rattle.lgc_formulas.specs.FormulaGrammar.{as_whole, numbered_formula}
use Rattle.lgc_formulas.specs.FormulaReading.{behind_operator_at, close_quantifier_at, atom_terms_at, formula_at}

-- what a formula begins with, by whether it is a # and by its role
abbrev pub head_of : Bool → Role → Head
head_of true role = head.Numbered
head_of false (Operator op) = head.Operator op
head_of false (Quantifier quant) = head.Quantifier quant
head_of false Neither = head.Predicate

-- the first token of a formula, and what it says
unfoldable pub head_at : Setting → ℕ → ℕ → Reader Named (Head × List ℕ)
head_at s deep many ts = map_at (λ t. (head_of (is_hash (numbered s) t) t.role, text_of t)) (allowed_at (starts_formula (numbered s)) (formula_fault s deep many)) ts

-- ---- what is read behind it

unfoldable pub behind_quantifier_at : (List (List ℕ) → ℕ → Reader Named Read) → ℕ → List (List ℕ) → ℕ → Reader Named Read
behind_quantifier_at p quant names many = do
  one_at (is OpenRound)
  name ← one_at (is Upper)
  one_at (is Comma)
  body ← p (text_of name ∷ names) many
  close_quantifier_at quant body

unfoldable pub behind_hash_at : Setting → ℕ → Reader Named Read
behind_hash_at s many = do
  number ← allowed_at is_number (number_fault s)
  nothing_at (numbered_formula (let_of s number) many)

unfoldable pub behind_predicate_at : Bool → List (List ℕ) → ℕ → List ℕ → ℕ → Reader Named Read
behind_predicate_at limited names deep text many = do
  terms ← atom_terms_at limited names deep many
  nothing_at (as_whole (Atom text terms.0) terms.1)

-- where `deep` nodes are left on the way down behind it
unfoldable pub behind_head_at : Setting → ℕ → List (List ℕ) → ℕ → Head → List ℕ → Reader Named Read
behind_head_at s deep names many (head.Operator op) text ts = behind_operator_at (formula_at s deep names) (operator_at s.logic op).arity op (many - 1) ts
behind_head_at s deep names many (head.Quantifier quant) text ts = behind_quantifier_at (formula_at s deep) quant names (many - 1) ts
behind_head_at s deep names many head.Numbered text ts = behind_hash_at s many ts
behind_head_at s deep names many head.Predicate text ts = behind_predicate_at (numbered s) names deep text (many - 1) ts

unfoldable pub headed_formula_at : Setting → ℕ → List (List ℕ) → ℕ → Reader Named Read
headed_formula_at s deep names many = do
  first ← head_at s deep many
  behind_head_at s (deep - 1) names many first.0 first.1
