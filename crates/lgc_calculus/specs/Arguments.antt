-- The rule of an operator at arguments, which are given by their truth values.
use Rattle.std.specs.Prelude.{◌≡◌, ◌<◌, ℕ, List, length, All}
use Rattle.std.specs.List.{list_all}
use Rattle.lgc_values.specs.Values.{has}
use Rattle.lgc_values.specs.Logic.{Logic, operator_at}
use Rattle.lgc_clauses.specs.Rules.{some_in, OperatorRule}
use Rattle.lgc_syntax.specs.Values.{operation}

-- At any arguments the operator's value lies in the sign exactly where each clause has some argument in the set at its place.
abbrev pub IsExactAtArguments : Logic → OperatorRule → Type 0
IsExactAtArguments logic rule = (arguments : List ℕ) → length arguments ≡ (operator_at logic rule.op).arity → All (λ v. v < logic.size) arguments
    → has rule.sign (operation logic rule.op arguments) ≡ list_all (λ sets. some_in sets arguments) rule.clauses
