-- The grammar of terms, line by line. It says which trees the phrases have that keep every rule, and which rule the last token breaks
-- where one is broken.
--
-- A term doesn't depend on a logic. It is read with the names that quantifiers around it bind, the innermost first, and with two
-- limits: how many nodes are left on the way down, and how many in all.
use Rattle.std.specs.Prelude.{ℕ, zero, suc, ◌-◌, Bool, false, List, [], ◌∷◌, ◌++◌, Option, Some, None}
use Rattle.lgc_grammar.specs.Grammar.{Grammar, One, Allowed, Refused, Nothing, Mapped, ◌>>=◌, ◌>>◌, Either, Optional, Growing}
use Rattle.lgc_syntax.specs.declared.formula.Term.{Term, Bound, Free, Apply}
use Rattle.lgc_tokens.specs.declared.class.Class.TheVariants.{Upper, OpenRound, CloseRound, Comma}
use Rattle.lgc_tokens.specs.Spelled.{Spelled}
use Rattle.lgc_tokens.specs.Classes.{is, is_word, starts_term}
use Rattle.lgc_formulas.specs.declared.formula.TheConstants.{MOST_DEPTH}
use Rattle.lgc_formulas.specs.Scopes.{bound_in}
use Rattle.lgc_formulas.specs.Faults.{term_fault, depth_fault}

-- ---- trees of terms

-- a tree, and how many nodes are left behind it
abbrev pub Counted : Type 0 → Type 0
Counted A = A × ℕ

-- a term behind others
abbrev pub with_term : Counted (List Term) → Counted Term → Counted (List Term)
with_term terms term = (terms.0 ++ term.0 ∷ [], term.1)

-- the variable of a quantifier, or a free one
abbrev pub variable_by : Option ℕ → List ℕ → Term
variable_by (Some i) text = Bound i
variable_by None text = Free text

-- the variable with a name, where these names are in scope
abbrev pub variable : List (List ℕ) → List ℕ → Term
variable names text = variable_by (bound_in names text) text

-- ---- arguments, of one grammar of terms, which is told how many nodes are left

module _ (L : ℕ → Grammar Spelled (Counted Term)) where
  -- a term behind these
  abbrev pub NextTerm : Counted (List Term) → Grammar Spelled (Counted (List Term))
  NextTerm terms = Mapped (with_term terms) (L terms.1)

  -- "," term
  abbrev pub CommaTerm : Counted (List Term) → Grammar Spelled (Counted (List Term))
  CommaTerm terms = do
    One (is Comma)
    NextTerm terms

  -- "(" term { "," term } ")"
  abbrev pub SomeTerms : ℕ → Grammar Spelled (Counted (List Term))
  SomeTerms many = do
    One (is OpenRound)
    first ← NextTerm ([], many)
    terms ← Growing CommaTerm first
    One (is CloseRound)
    Nothing terms

  -- [ "(" term { "," term } ")" ]
  abbrev pub Terms : ℕ → Grammar Spelled (Counted (List Term))
  Terms many = Optional ([], many) (SomeTerms many)

  -- Lower [ "(" term { "," term } ")" ]
  abbrev pub Application : (Spelled → Option ℕ) → ℕ → Grammar Spelled (Counted Term)
  Application fault many = do
    head ← Allowed is_word fault
    terms ← Terms many
    Nothing (Apply head.text terms.0, terms.1)

-- ---- terms

-- Upper
abbrev pub Variable : List (List ℕ) → (Spelled → Option ℕ) → ℕ → Grammar Spelled (Counted Term)
Variable names fault many = Mapped (λ head. (variable names head.text, many)) (Allowed (is Upper) fault)

-- term = Upper | Lower [ "(" term { "," term } ")" ], with names in scope, where `deep` nodes are left on the way down and `many` in
-- all; names may be long, unless they are limited
abbrev pub TermPhrase : Bool → List (List ℕ) → ℕ → ℕ → Grammar Spelled (Counted Term)
TermPhrase limited names zero many r ts = Refused starts_term (depth_fault (term_fault limited names 0 many)) r ts
TermPhrase limited names (suc deep) many r ts =
    Either (Variable names (term_fault limited names (suc deep) many) (many - 1))
    (Application (TermPhrase limited names deep) (term_fault limited names (suc deep) many) (many - 1)) r ts

-- a term with no quantifier around it, whose names may be long
abbrev pub OneTerm : ℕ → Grammar Spelled (Counted Term)
OneTerm many = TermPhrase false [] MOST_DEPTH many
