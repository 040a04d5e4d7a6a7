-- The free variables of terms and formulas.
use Rattle.std.specs.Prelude.{ℕ, Bool, true, false, List}
use Rattle.std.specs.Str.{bytes_eq}
use Rattle.std.specs.List.{list_any, list_all}
use Rattle.lgc_syntax.specs.declared.formula.Term.{Term, fold-Term}
use Rattle.lgc_syntax.specs.declared.formula.Term.TheOpen.{Term-F}
use Rattle.lgc_syntax.specs.declared.formula.Term.TheOpen as term
use Rattle.lgc_syntax.specs.declared.formula.Formula.{Formula, fold-Formula}
use Rattle.lgc_syntax.specs.declared.formula.Formula.TheOpen.{Formula-F}
use Rattle.lgc_syntax.specs.declared.formula.Formula.TheOpen as formula

-- whether the variable x occurs free in a term
abbrev pub occurs_layer : List ℕ → Term-F Bool → Bool
occurs_layer x (term.Bound i) = false
occurs_layer x (term.Free y) = bytes_eq x y
occurs_layer x (term.Apply f args) = list_any (λ b. b) args

unfoldable pub occurs : List ℕ → Term → Bool
occurs x = fold-Term Bool (occurs_layer x)

-- whether it occurs free in a formula
abbrev pub free_layer : List ℕ → Formula-F Bool → Bool
free_layer x (formula.Atom p args) = list_any (occurs x) args
free_layer x (formula.Op o args) = list_any (λ b. b) args
free_layer x (formula.Quant q body) = body

unfoldable pub free : List ℕ → Formula → Bool
free x = fold-Formula Bool (free_layer x)

-- whether a term has no bound variable
abbrev pub unbound_layer : Term-F Bool → Bool
unbound_layer (term.Bound i) = false
unbound_layer (term.Free x) = true
unbound_layer (term.Apply f args) = list_all (λ b. b) args

unfoldable pub has_no_bound : Term → Bool
has_no_bound = fold-Term Bool unbound_layer
