-- A term put for the variable of the quantifier that stood around a formula.
use Rattle.std.specs.Prelude.{ℕ, ◌+◌, ◌-◌, ◌==◌, nat_lt, map, if◌then◌else◌}
use Rattle.lgc_syntax.specs.declared.formula.Term.{Term, Bound, Free, Apply, fold-Term}
use Rattle.lgc_syntax.specs.declared.formula.Term.TheOpen.{Term-F}
use Rattle.lgc_syntax.specs.declared.formula.Term.TheOpen as term
use Rattle.lgc_syntax.specs.declared.formula.Formula.{Formula, Atom, Op, Quant, fold-Formula}
use Rattle.lgc_syntax.specs.declared.formula.Formula.TheOpen.{Formula-F}
use Rattle.lgc_syntax.specs.declared.formula.Formula.TheOpen as formula

-- What becomes of a bound variable below k further quantifiers: t takes the place of the variable k, and a variable that points past it
-- is lowered by one.
unfoldable pub put_for_bound : Term → ℕ → ℕ → Term
put_for_bound t i k = if nat_lt i k then Bound i else (if i == k then t else Bound (i - 1))

abbrev pub put_in_term_layer : Term → Term-F (ℕ → Term) → ℕ → Term
put_in_term_layer t (term.Bound i) k = put_for_bound t i k
put_in_term_layer t (term.Free x) k = Free x
put_in_term_layer t (term.Apply f args) k = Apply f (map (λ a. a k) args)

unfoldable pub put_in_term : Term → Term → ℕ → Term
put_in_term t = fold-Term (ℕ → Term) (put_in_term_layer t)

abbrev pub put_in_layer : Term → Formula-F (ℕ → Formula) → ℕ → Formula
put_in_layer t (formula.Atom p args) k = Atom p (map (λ a. put_in_term t a k) args)
put_in_layer t (formula.Op o args) k = Op o (map (λ a. a k) args)
put_in_layer t (formula.Quant q body) k = Quant q (body (k + 1))

unfoldable pub put_in : Term → Formula → ℕ → Formula
put_in t = fold-Formula (ℕ → Formula) (put_in_layer t)

-- the instance of the body of a quantifier by t
abbrev pub inst : Formula → Term → Formula
inst body t = put_in t body 0
