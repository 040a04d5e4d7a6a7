-- The value of a formula without quantifiers under a valuation.
use Rattle.std.specs.Prelude.{◌<◌, ℕ, ◌+◌, ◌*◌, List, [], ◌∷◌, cond}
use Rattle.std.specs.List.{fold}
use Rattle.lgc_values.specs.Logic.{Logic, value_at}
use Rattle.lgc_syntax.specs.declared.formula.Formula.{Formula, Atom, fold-Formula}
use Rattle.lgc_syntax.specs.declared.formula.Formula.TheOpen.{Formula-F}
use Rattle.lgc_syntax.specs.declared.formula.Formula.TheOpen as formula
use Rattle.lgc_syntax.specs.Equality.{same_formula}

-- the index of a row of arguments: its digits are the arguments, the first the most significant
abbrev pub row_index : ℕ → List ℕ → ℕ
row_index size arguments = fold (λ index argument. index * size + argument) 0 arguments

-- the value that the operator's table has at the arguments
abbrev pub operation : Logic → ℕ → List ℕ → ℕ
operation logic op arguments = value_at logic op (row_index logic.size arguments)

-- A valuation gives each atom a truth value. A compound has the value that its operator has at the values of its arguments. A quantified
-- formula has none; 0 stands for it.
abbrev pub value_layer : Logic → (Formula → ℕ) → Formula-F ℕ → ℕ
value_layer logic v (formula.Atom p args) = v (Atom p args)
value_layer logic v (formula.Op o values) = operation logic o values
value_layer logic v (formula.Quant q body) = 0

unfoldable pub value : Logic → (Formula → ℕ) → Formula → ℕ
value logic v = fold-Formula ℕ (value_layer logic v)

-- each atom has a truth value of the logic
abbrev pub IsValuation : Logic → (Formula → ℕ) → Type 0
IsValuation logic v = (atom : Formula) → v atom < logic.size

-- The valuation that a list of atoms and values tells: the value of the first entry for an atom, and 0 for an atom that isn't listed.
abbrev pub listed : List (Formula × ℕ) → Formula → ℕ
listed [] atom = 0
listed (entry ∷ entries) atom = cond (same_formula atom entry.0) entry.1 (listed entries atom)
