-- The printed form of terms and formulas: one spelling, without blanks.
use Rattle.std.specs.Prelude.{ℕ, ◌+◌, ◌-◌, List, [], ◌∷◌, ◌++◌, map, codes}
use Rattle.std.specs.Fmt.{decimal}
use Rattle.lgc_values.specs.Logic.{Logic, operator_at, quantifier_at}
use Rattle.lgc_syntax.specs.declared.formula.Term.{Term, fold-Term}
use Rattle.lgc_syntax.specs.declared.formula.Term.TheOpen.{Term-F}
use Rattle.lgc_syntax.specs.declared.formula.Term.TheOpen as term
use Rattle.lgc_syntax.specs.declared.formula.Formula.{Formula, fold-Formula}
use Rattle.lgc_syntax.specs.declared.formula.Formula.TheOpen.{Formula-F}
use Rattle.lgc_syntax.specs.declared.formula.Formula.TheOpen as formula
use Rattle.lgc_print.specs.Text.{joined, symbol_text}

-- `(p,q)`, and nothing where there are no arguments
abbrev pub in_brackets : List (List ℕ) → List ℕ
in_brackets [] = []
in_brackets (argument ∷ arguments) = codes "(" ++ joined (codes ",") (argument ∷ arguments) ++ codes ")"

-- the variable of the k-th quantifier, counted from the outermost one: `B1`, `B2` and so on
abbrev pub binder : ℕ → List ℕ
binder k = codes "B" ++ decimal k

-- a term where so many quantifiers stand around it
abbrev pub term_text_layer : Term-F (ℕ → List ℕ) → ℕ → List ℕ
term_text_layer (term.Bound i) around = binder (around - i)
term_text_layer (term.Free x) around = x
term_text_layer (term.Apply f args) around = f ++ in_brackets (map (λ a. a around) args)

unfoldable pub term_text : Term → ℕ → List ℕ
term_text = fold-Term (ℕ → List ℕ) term_text_layer

-- a formula where so many quantifiers stand around it: `p(X)`, `imp(p,q)`, `forall(B1,p(B1))`
abbrev pub formula_text_layer : Logic → Formula-F (ℕ → List ℕ) → ℕ → List ℕ
formula_text_layer logic (formula.Atom p args) around = p ++ in_brackets (map (λ a. term_text a around) args)
formula_text_layer logic (formula.Op o args) around = symbol_text (operator_at logic o).name ++ in_brackets (map (λ a. a around) args)
formula_text_layer logic (formula.Quant q body) around = symbol_text (quantifier_at logic q).name ++ codes "(" ++ binder (around + 1) ++ codes "," ++ body (around + 1) ++ codes ")"

unfoldable pub text_within : Logic → Formula → ℕ → List ℕ
text_within logic = fold-Formula (ℕ → List ℕ) (formula_text_layer logic)

-- the text of a formula, with no quantifier around it
abbrev pub formula_text : Logic → Formula → List ℕ
formula_text logic f = text_within logic f 0
