-- Clauses that are irredundant over a quantifier's table make an irredundant rule.
use Rattle.std.proofs.Common.{ℕ, List}
use Rattle.lgc_values.specs.Logic.{Logic}
use Rattle.lgc_clauses.specs.Rules.{of_quantifier}
use Rattle.lgc_clauses.specs.Irredundance.{IsIrredundant}
use Rattle.lgc_derivation.specs.Tables.{IsIrredundantOver}
use Rattle.lgc_quant_rules.specs.Quantifiers.{quantifier_table}

pub irredundant_rule : (logic : Logic) (q : ℕ) (sign : List ℕ) (clauses : List (List (List ℕ))) → IsIrredundantOver (quantifier_table logic q sign) clauses → IsIrredundant logic (of_quantifier (record { quant = q; sign = sign; clauses = clauses }))
irredundant_rule logic q sign clauses irredundant = record {
  clauses = λ i redundant. irredundant.needs_clause i redundant.clause redundant.exact;
  values = λ i j v redundant. irredundant.needs_value i j v (record { clause = redundant.clause; part = redundant.part; value = redundant.value }) redundant.exact;
}
