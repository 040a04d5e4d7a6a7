-- Logics of operators alone.
use Rattle.std.specs.Prelude.{ℕ, List, []}
use Rattle.lgc_values.specs.declared.matrix.Operator.{Operator}
use Rattle.lgc_values.specs.Logic.{Logic}

-- the logic that has these operators and no quantifiers, without the names of its values
abbrev pub with_operators : ℕ → List Operator → Logic
with_operators size operators = record { size = size; names = []; designated = []; operators = operators; quantifiers = [] }
