-- The table tells the operator's values, so what is irredundant over it is irredundant.
use Rattle.std.proofs.Common.{◌≡◌, ℕ, ◌^◌, List, length, get_or, false, ap, sym, ◌∙◌, subst}
use Rattle.lgc_values.specs.Logic.{row_count, operator_at}
use Rattle.lgc_clauses.specs.Rules.{of_operator, clause_holds}
use Rattle.lgc_clauses.specs.Irredundance.{IsIrredundant}
use Rattle.lgc_derivation.proofs.Irredundance.{irredundant_alike}
use Rattle.lgc_op_rules.specs.Operators.{operator_table}
use Rattle.lgc_op_rules.proofs.Irredundance.{irredundant_rule}
use Rattle.lgc_op_rules.proofs.rule.operator_rule.Goals as goal

pub returns-clause-irredundant : goal.returns-clause-irredundant
returns-clause-irredundant g c =
    let logic = c.args.m.now in
    let table = c.in_ok-table.table in
    let lists = c.in_ok-lists.lists.items in
    let rows : length c.in_ok-table.table.inside.items ≡ row_count c.args.m.now c.args.op =
    table.rows ∙ ap (λ (k : ℕ). g.row.N ^ k) c.in_ok-table.ensures.arity ∙ ap (λ (n : ℕ). n ^ (operator_at c.args.m.now c.args.op).arity) (sym c.new.ensures.size) in
    subst (λ (clauses : List (List (List ℕ))). IsIrredundant c.args.m.now (of_operator (record { op = c.args.op; sign = c.args.sign; clauses = clauses }))) (sym (c.of_vec.ensures ∙ c.in_ok-clauses.ensures))
    (irredundant_rule logic c.args.op c.args.sign lists
    (irredundant_alike (record { count = length table.inside.items; target = λ row. get_or table.inside.items row false; holds = clause_holds g.row.N }) (operator_table logic c.args.op c.args.sign)
    rows c.in_ok-table.ensures.inside (ap clause_holds (sym c.new.ensures.size)) lists c.in_ok-lists.ensures.irredundant))
