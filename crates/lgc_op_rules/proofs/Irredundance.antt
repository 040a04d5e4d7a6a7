-- Clauses that are irredundant over an operator's table make an irredundant rule.
use Rattle.std.proofs.Common.{ℕ, List}
use Rattle.lgc_values.specs.Logic.{Logic}
use Rattle.lgc_clauses.specs.Rules.{of_operator}
use Rattle.lgc_clauses.specs.Irredundance.{IsIrredundant}
use Rattle.lgc_derivation.specs.Tables.{IsIrredundantOver}
use Rattle.lgc_op_rules.specs.Operators.{operator_table}

pub irredundant_rule : (logic : Logic) (op : ℕ) (sign : List ℕ) (clauses : List (List (List ℕ))) → IsIrredundantOver (operator_table logic op sign) clauses → IsIrredundant logic (of_operator (record { op = op; sign = sign; clauses = clauses }))
irredundant_rule logic op sign clauses irredundant = record {
  clauses = λ i redundant. irredundant.needs_clause i redundant.clause redundant.exact;
  values = λ i j v redundant. irredundant.needs_value i j v (record { clause = redundant.clause; part = redundant.part; value = redundant.value }) redundant.exact;
}
