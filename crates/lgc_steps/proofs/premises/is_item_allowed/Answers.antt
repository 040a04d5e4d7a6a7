-- Each value lies in the conclusion or is covered.
use Rattle.std.proofs.Common.{◌≡◌, ◌||◌, List, ℕ, sym, ap, ◌∙◌}
use Rattle.std.specs.List.{list_all}
use Rattle.lgc_values.specs.Values.{has, values_where}
use Rattle.lgc_clauses.specs.Kinds.{plain_rule}
use Rattle.lgc_clauses.specs.Irredundance.{clause_at}
use Rattle.lgc_sequents.specs.Signed.{SignedFormula}
use Rattle.lgc_sequents.specs.Sequents.{sign_in}
use Rattle.lgc_sequents.specs.Steps.{auxiliary_formulas, carries}
use Rattle.lgc_steps.proofs.Covering.{allowed_by_clause, allowed_by_both}
use Rattle.lgc_steps.proofs.premises.is_item_allowed.Goals as goal

pub returns-then-is_subset-clause-allowed : goal.returns-then-is_subset-clause-allowed
returns-then-is_subset-clause-allowed g c =
    let items = auxiliary_formulas (plain_rule c.args.rule.now).head (clause_at (plain_rule c.args.rule.now).clauses c.args.i) c.args.principal.now c.args.terms.now in
    let own = sign_in c.args.conclusion.now c.item.inside.formula in
    c.if-is_subset.true
    ∙ sym (allowed_by_clause g.row.N own c.standing-by_clause.result items c.item.inside.formula c.item.inside.sign c.bound-below.ensures.below c.standing-by_clause.ensures (sym c.is_subset.ensures ∙ c.if-is_subset.true))
    ∙ ap (λ (x : SignedFormula). list_all (λ v. has (sign_in c.args.conclusion.now x.formula) v || carries items x.formula v) x.sign) c.item.view_is

pub returns-else-is_subset-clause-allowed : goal.returns-else-is_subset-clause-allowed
returns-else-is_subset-clause-allowed g c =
    let items = auxiliary_formulas (plain_rule c.args.rule.now).head (clause_at (plain_rule c.args.rule.now).clauses c.args.i) c.args.principal.now c.args.terms.now in
    let own = sign_in c.args.conclusion.now c.item.inside.formula in
    let is_own : c.sign_near.result ≡ own = c.sign_near.ensures.sign ∙ ap (λ (xs : List SignedFormula). sign_in xs c.item.inside.formula) c.items-items.ensures.items in
    let sign = c.item.inside.sign in
    c.is_subset-else-is_subset.ensures
    ∙ ap (λ (s : List ℕ). list_all (has s) sign) (c.union.ensures ∙ (λ i. values_where g.row.N (λ w. has (is_own i) w || has c.standing-by_clause.result w)))
    ∙ allowed_by_both g.row.N own c.standing-by_clause.result items c.item.inside.formula sign c.bound-below.ensures.below c.standing-by_clause.ensures
    ∙ ap (λ (x : SignedFormula). list_all (λ v. has (sign_in c.args.conclusion.now x.formula) v || carries items x.formula v) x.sign) c.item.view_is
