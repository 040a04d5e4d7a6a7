-- When a formula is one of a logic.
use Rattle.std.specs.Prelude.{◌≡◌, ℕ, ◌+◌, ◌&&◌, ◌==◌, nat_lt, Bool, true, length}
use Rattle.std.specs.List.{list_all}
use Rattle.lgc_values.specs.Logic.{Logic, operator_at}
use Rattle.lgc_syntax.specs.declared.formula.Term.{Term, fold-Term}
use Rattle.lgc_syntax.specs.declared.formula.Term.TheOpen.{Term-F}
use Rattle.lgc_syntax.specs.declared.formula.Term.TheOpen as term
use Rattle.lgc_syntax.specs.declared.formula.Formula.{Formula, fold-Formula}
use Rattle.lgc_syntax.specs.declared.formula.Formula.TheOpen.{Formula-F}
use Rattle.lgc_syntax.specs.declared.formula.Formula.TheOpen as formula

-- each bound variable has its quantifier, where so many quantifiers stand around the term
abbrev pub term_fits_layer : Term-F (ℕ → Bool) → ℕ → Bool
term_fits_layer (term.Bound i) around = nat_lt i around
term_fits_layer (term.Free x) around = true
term_fits_layer (term.Apply f args) around = list_all (λ a. a around) args

unfoldable pub term_fits : Term → ℕ → Bool
term_fits = fold-Term (ℕ → Bool) term_fits_layer

-- so do those of a formula, each operator is one of the logic and has as many arguments as its arity, and each quantifier is one
-- of the logic
abbrev pub fits_layer : Logic → Formula-F (ℕ → Bool) → ℕ → Bool
fits_layer logic (formula.Atom p args) around = list_all (λ a. term_fits a around) args
fits_layer logic (formula.Op o args) around = nat_lt o (length logic.operators) && ((length args == (operator_at logic o).arity) && list_all (λ a. a around) args)
fits_layer logic (formula.Quant q body) around = nat_lt q (length logic.quantifiers) && body (around + 1)

unfoldable pub fits_within : Logic → Formula → ℕ → Bool
fits_within logic = fold-Formula (ℕ → Bool) (fits_layer logic)

-- a formula of the logic, with no quantifier around it
abbrev pub Fits : Logic → Formula → Type 0
Fits logic f = fits_within logic f 0 ≡ true
