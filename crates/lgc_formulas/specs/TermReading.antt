-- The readers of terms, line by line as their grammar.
use Rattle.std.specs.Prelude.{ℕ, zero, suc, ◌-◌, Bool, false, List, [], Option}
use Rattle.lgc_grammar.specs.Reading.{Reader, one_at, allowed_at, refused_at, nothing_at, map_at, ◌>>=◌, ◌>>◌, either_at, optional_at, growing_at}
use Rattle.lgc_syntax.specs.declared.formula.Term.{Term, Apply}
use Rattle.lgc_tokens.specs.declared.class.Class.TheVariants.{Upper, OpenRound, CloseRound, Comma}
use Rattle.lgc_tokens.specs.Spelled.{Spelled}
use Rattle.lgc_tokens.specs.Classes.{is, is_word, starts_term}
use Rattle.lgc_formulas.specs.declared.formula.TheConstants.{MOST_DEPTH}
use Rattle.lgc_formulas.specs.Faults.{term_fault, depth_fault}
use Rattle.lgc_formulas.specs.TermGrammar.{Counted, with_term, variable}

-- ---- arguments, of one reader of terms

module _ (p : ℕ → Reader Spelled (Counted Term)) where
  -- a term behind these
  unfoldable pub next_term_at : Counted (List Term) → Reader Spelled (Counted (List Term))
  next_term_at terms ts = map_at (with_term terms) (p terms.1) ts

  unfoldable pub comma_term_at : Counted (List Term) → Reader Spelled (Counted (List Term))
  comma_term_at terms = do
    one_at (is Comma)
    next_term_at terms

  -- terms behind these
  unfoldable pub more_terms_at : Counted (List Term) → Reader Spelled (Counted (List Term))
  more_terms_at terms ts = growing_at (is Comma) comma_term_at terms ts

  unfoldable pub some_terms_at : ℕ → Reader Spelled (Counted (List Term))
  some_terms_at many = do
    one_at (is OpenRound)
    first ← next_term_at ([], many)
    terms ← more_terms_at first
    one_at (is CloseRound)
    nothing_at terms

  unfoldable pub terms_at : ℕ → Reader Spelled (Counted (List Term))
  terms_at many ts = optional_at (is OpenRound) ([], many) (some_terms_at many) ts

  unfoldable pub application_at : (Spelled → Option ℕ) → ℕ → Reader Spelled (Counted Term)
  application_at fault many = do
    head ← allowed_at is_word fault
    terms ← terms_at many
    nothing_at (Apply head.text terms.0, terms.1)

-- ---- terms

unfoldable pub variable_at : List (List ℕ) → (Spelled → Option ℕ) → ℕ → Reader Spelled (Counted Term)
variable_at names fault many ts = map_at (λ head. (variable names head.text, many)) (allowed_at (is Upper) fault) ts

-- a term where `deep` nodes are left on the way down and `many` in all
unfoldable pub term_at : Bool → List (List ℕ) → ℕ → ℕ → Reader Spelled (Counted Term)
term_at limited names zero many ts = refused_at starts_term (depth_fault (term_fault limited names 0 many)) ts
term_at limited names (suc deep) many ts =
    either_at (is Upper) (variable_at names (term_fault limited names (suc deep) many) (many - 1))
    (application_at (term_at limited names deep) (term_fault limited names (suc deep) many) (many - 1)) ts

-- a term with no quantifier around it, whose names may be long
unfoldable pub one_term_at : ℕ → Reader Spelled (Counted Term)
one_term_at many ts = term_at false [] MOST_DEPTH many ts
