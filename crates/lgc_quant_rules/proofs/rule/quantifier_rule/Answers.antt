-- The table tells the quantifier's values, so what is exact and irredundant over it is so for the quantifier.
use Rattle.std.proofs.Common.{◌≡◌, ℕ, ◌-◌, ◌^◌, ◌<◌, List, length, get_or, false, ap, sym, ◌∙◌, subst}
use Rattle.lgc_values.specs.Values.{has, set_of_row}
use Rattle.lgc_values.specs.Logic.{value_over}
use Rattle.lgc_clauses.specs.Rules.{of_quantifier, holds_over}
use Rattle.lgc_clauses.specs.Exactness.{IsExact}
use Rattle.lgc_clauses.specs.Irredundance.{IsIrredundant}
use Rattle.lgc_derivation.proofs.Irredundance.{exact_alike, irredundant_alike}
use Rattle.lgc_quant_rules.specs.Quantifiers.{quantifier_table}
use Rattle.lgc_quant_rules.proofs.Irredundance.{irredundant_rule}
use Rattle.lgc_quant_rules.proofs.rule.quantifier_rule.Goals as goal

pub returns-clause-exact : goal.returns-clause-exact
returns-clause-exact g c =
    let logic = c.args.m.now in
    let table = c.in_ok-table.table in
    let lists = c.in_ok-lists.lists.items in
    let size : c.args.m.now.size ≡ g.row.N = c.new.ensures.size in
    let rows : length c.in_ok-table.table.inside.items ≡ 2 ^ c.args.m.now.size - 1 = table.rows ∙ ap (λ (n : ℕ). 2 ^ n - 1) (sym size) in
    subst (λ (clauses : List (List (List ℕ))). IsExact c.args.m.now (of_quantifier (record { quant = c.args.q; sign = c.args.sign; clauses = clauses }))) (sym (c.of_vec.ensures ∙ c.in_ok-clauses.ensures))
    (exact_alike (record { count = length table.inside.items; target = λ row. get_or table.inside.items row false; holds = λ sets row. holds_over sets (set_of_row g.row.N row) }) (quantifier_table logic c.args.q c.args.sign)
    rows
    (subst (λ (n : ℕ). (row : ℕ) → row < 2 ^ n - 1 → get_or c.in_ok-table.table.inside.items row false ≡ has c.args.sign (value_over c.args.m.now c.args.q (set_of_row n row))) (sym size) c.in_ok-table.ensures.inside)
    (ap (λ (n : ℕ). λ (sets : List (List ℕ)) (row : ℕ). holds_over sets (set_of_row n row)) (sym size)) lists c.in_ok-lists.ensures.exact)

pub returns-clause-irredundant : goal.returns-clause-irredundant
returns-clause-irredundant g c =
    let logic = c.args.m.now in
    let table = c.in_ok-table.table in
    let lists = c.in_ok-lists.lists.items in
    let size : c.args.m.now.size ≡ g.row.N = c.new.ensures.size in
    let rows : length c.in_ok-table.table.inside.items ≡ 2 ^ c.args.m.now.size - 1 = table.rows ∙ ap (λ (n : ℕ). 2 ^ n - 1) (sym size) in
    subst (λ (clauses : List (List (List ℕ))). IsIrredundant c.args.m.now (of_quantifier (record { quant = c.args.q; sign = c.args.sign; clauses = clauses }))) (sym (c.of_vec.ensures ∙ c.in_ok-clauses.ensures))
    (irredundant_rule logic c.args.q c.args.sign lists
    (irredundant_alike (record { count = length table.inside.items; target = λ row. get_or table.inside.items row false; holds = λ sets row. holds_over sets (set_of_row g.row.N row) }) (quantifier_table logic c.args.q c.args.sign)
    rows
    (subst (λ (n : ℕ). (row : ℕ) → row < 2 ^ n - 1 → get_or c.in_ok-table.table.inside.items row false ≡ has c.args.sign (value_over c.args.m.now c.args.q (set_of_row n row))) (sym size) c.in_ok-table.ensures.inside)
    (ap (λ (n : ℕ). λ (sets : List (List ℕ)) (row : ℕ). holds_over sets (set_of_row n row)) (sym size)) lists c.in_ok-lists.ensures.irredundant))
