-- The table of an operator at a sign, and the clause that is false at one row alone.
use Rattle.std.specs.Prelude.{ℕ, ◌==◌, not, List, map}
use Rattle.lgc_values.specs.Values.{has, values_where}
use Rattle.lgc_values.specs.Logic.{Logic, row_count, arguments_at, value_at}
use Rattle.lgc_clauses.specs.Rules.{clause_holds}
use Rattle.lgc_derivation.specs.Tables.{PlainTable}

-- a row is inside the target where the operator's value lies in the sign
abbrev pub operator_table : Logic → ℕ → List ℕ → PlainTable
operator_table logic op sign = record { count = row_count logic op; target = λ row. has sign (value_at logic op row); holds = clause_holds logic.size }

-- the clause that is false at one row alone: each set has all values but the row's argument
abbrev pub clause_against : ℕ → ℕ → ℕ → List (List ℕ)
clause_against size arity row = map (λ argument. values_where size (λ v. not (v == argument))) (arguments_at size arity row)
