-- Which terms and formulas can be read from their text: they have names of the right forms, and keep the limits of what is read.
use Rattle.std.specs.Prelude.{◌≡◌, ◌≤◌, ℕ, ◌&&◌, ◌||◌, ◌==◌, not, Bool, true, false, List, [], ◌∷◌, is_none}
use Rattle.std.specs.List.{list_all}
use Rattle.std.specs.Char.{is_ascii_uppercase}
use Rattle.lgc_lexer.specs.Forms.{is_word}
use Rattle.lgc_values.specs.Logic.{Logic, operator_named, quantifier_named}
use Rattle.lgc_syntax.specs.declared.formula.Term.{Term, fold-Term}
use Rattle.lgc_syntax.specs.declared.formula.Term.TheOpen.{Term-F}
use Rattle.lgc_syntax.specs.declared.formula.Term.TheOpen as term
use Rattle.lgc_syntax.specs.declared.formula.Formula.{Formula, fold-Formula}
use Rattle.lgc_syntax.specs.declared.formula.Formula.TheOpen.{Formula-F}
use Rattle.lgc_syntax.specs.declared.formula.Formula.TheOpen as formula
use Rattle.lgc_syntax.specs.Fits.{Fits}
use Rattle.lgc_syntax.specs.Sizes.{term_nodes, term_depth, nodes, depth}
use Rattle.lgc_syntax.specs.Variables.{has_no_bound}
use Rattle.lgc_print.specs.Text.{is_lower_word}
use Rattle.lgc_formulas.specs.declared.formula.TheConstants.{MOST_DEPTH}
use Rattle.lgc_formulas.specs.Faults.{is_too_long}
use Rattle.lgc_formulas.specs.Scopes.{is_reserved}

-- ---- names, which may be long unless they are limited

-- an upper-case letter or `_`, and then letters, digits and `_`
abbrev pub is_upper_word : List ℕ → Bool
is_upper_word [] = false
is_upper_word (b ∷ rest) = (is_ascii_uppercase b || b == 95) && list_all is_word rest

-- A free variable isn't named as those of quantifiers are written.
abbrev pub can_name_variable : Bool → List ℕ → Bool
can_name_variable limited x = is_upper_word x && (not (is_reserved x) && not (is_too_long limited x))

abbrev pub can_name_function : Bool → List ℕ → Bool
can_name_function limited f = is_lower_word f && not (is_too_long limited f)

-- A predicate has the name of no operator and of no quantifier.
abbrev pub can_name_predicate : Logic → Bool → List ℕ → Bool
can_name_predicate logic limited p = is_lower_word p && (not (is_too_long limited p) && (is_none (operator_named logic p) && is_none (quantifier_named logic p)))

-- the names in a term
abbrev pub term_names_layer : Bool → Term-F Bool → Bool
term_names_layer limited (term.Bound i) = true
term_names_layer limited (term.Free x) = can_name_variable limited x
term_names_layer limited (term.Apply f args) = can_name_function limited f && list_all (λ b. b) args

unfoldable pub has_readable_term_names : Bool → Term → Bool
has_readable_term_names limited = fold-Term Bool (term_names_layer limited)

-- the names in a formula
abbrev pub names_layer : Logic → Bool → Formula-F Bool → Bool
names_layer logic limited (formula.Atom p args) = can_name_predicate logic limited p && list_all (has_readable_term_names limited) args
names_layer logic limited (formula.Op o args) = list_all (λ b. b) args
names_layer logic limited (formula.Quant q body) = body

unfoldable pub has_readable_names : Logic → Bool → Formula → Bool
has_readable_names logic limited = fold-Formula Bool (names_layer logic limited)

-- ---- what can be written, where `many` nodes are left

pub record IsWritableTerm (limited : Bool) (many : ℕ) (t : Term) : Type 0 where
  pub closed : has_no_bound t ≡ true
  pub named : has_readable_term_names limited t ≡ true
  pub shallow : term_depth t ≤ MOST_DEPTH
  pub small : term_nodes t ≤ many

pub record IsWritable (logic : Logic) (limited : Bool) (many : ℕ) (f : Formula) : Type 0 where
  pub fits : Fits logic f
  pub named : has_readable_names logic limited f ≡ true
  pub shallow : depth f ≤ MOST_DEPTH
  pub small : nodes f ≤ many
