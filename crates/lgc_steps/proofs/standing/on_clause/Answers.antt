-- The `some` set is the last.
use Rattle.std.proofs.Common.{◌≤◌, ◌++◌, List, ℕ, true, false, length, map, take, drop, sym, ap, ◌∙◌, arith}
use Rattle.std.proofs.Math.Bool.{or-false}
use Rattle.std.proofs.lemmas.List.{length-map}
use Rattle.lgc_values.specs.Values.{has}
use Rattle.lgc_syntax.specs.Substitution.{inst}
use Rattle.lgc_syntax.proofs.EqualityLaws.{same_formula_test}
use Rattle.lgc_sequents.specs.Steps.{with_signs, carries}
use Rattle.lgc_steps.proofs.Covering.{has-either, carries_short, last_stands}
use Rattle.lgc_steps.proofs.standing.on_clause.Goals as goal

pub returns-then-terms-all : goal.returns-then-terms-all
returns-then-terms-all g c = λ v lt.
    let all = c.clause.inside.all in
    let formulas = map (inst c.args.body.now) c.args.terms.now in
    let f = c.args.f.now in
    let short : length formulas ≤ length all = omega (arith, length-map c.args.terms.now (inst c.args.body.now), c.if-terms-all.true, ap length c.items-all.ensures) in
    c.on_instances-covered.ensures v lt
    ∙ ap (λ (sets : List (List ℕ)). carries (with_signs sets formulas) f v) c.items-all.ensures
    ∙ sym (carries_short all c.clause.inside.some formulas f v short)
    ∙ ap (λ (clause : List (List ℕ)). carries (with_signs (drop 1 clause ++ take 1 clause) formulas) f v) c.clause.view_is

pub returns-then-is_instance : goal.returns-then-is_instance
returns-then-is_instance g c = λ v lt.
    let term = c.index-terms-all.result in
    ap (λ (set : List ℕ). has set v) c.union.ensures ∙ has-either g.row.N c.on_instances-covered.result c.clause.inside.some v lt
    ∙ sym (last_stands c.items-all.result.now c.clause.inside.all c.clause.inside.some c.args.clause.now c.args.body.now c.args.terms.now c.args.f.now term v (has c.on_instances-covered.result v) true
    c.items-all.ensures c.clause.view_is c.if-terms-all.false c.index-terms-all.is (c.on_instances-covered.ensures v lt) (sym c.if-is_instance.true ∙ same_formula_test c.is_instance.result c.args.f.now (inst c.args.body.now term) c.is_instance.ensures.means))

pub returns-else-is_instance : goal.returns-else-is_instance
returns-else-is_instance g c = λ v lt.
    let term = c.index-terms-all.result in
    sym (or-false (has c.on_instances-covered.result v))
    ∙ sym (last_stands c.items-all.result.now c.clause.inside.all c.clause.inside.some c.args.clause.now c.args.body.now c.args.terms.now c.args.f.now term v (has c.on_instances-covered.result v) false
    c.items-all.ensures c.clause.view_is c.if-terms-all.false c.index-terms-all.is (c.on_instances-covered.ensures v lt) (sym c.if-is_instance.false ∙ same_formula_test c.is_instance.result c.args.f.now (inst c.args.body.now term) c.is_instance.ensures.means))
