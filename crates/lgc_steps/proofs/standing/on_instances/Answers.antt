-- One more set stands on the formula or not.
use Rattle.std.proofs.Common.{◌≡◌, ◌||◌, sym, ap, ◌∙◌, ◌+◌, ◌<◌, [], length, map, drop, get_or, arith, List, ℕ}
use Rattle.std.proofs.lemmas.List.{get_or_default, get_or-map, length-map}
use Rattle.std.specs.Prelude.{min}
use Rattle.lgc_syntax.specs.Substitution.{inst}
use Rattle.lgc_syntax.proofs.EqualityLaws.{same_formula_test}
use Rattle.lgc_values.specs.Values.{has}
use Rattle.lgc_sequents.specs.Steps.{with_signs, carries}
use Rattle.lgc_steps.proofs.Covering.{stands, stands_not, all_covered}
use Rattle.lgc_steps.proofs.standing.on_instances.Goals.{then-is_instance, else-is_instance}
use Rattle.lgc_steps.proofs.standing.on_instances.Goals as goal

pub loop-i-preserved : goal.loop-i-preserved
loop-i-preserved g c = λ v lt.
    let i = c.loop-i.i in
    let sets = c.args.sets.now in
    let terms = c.args.terms.now in
    let arguments = map (inst c.args.body.now) terms in
    let f = c.args.f.now in
    let within = c.loop-i-test.true in
    let here : i < length sets = omega (arith, within, c.min-i-end.ensures) in
    let inside : i < length terms = omega (arith, within, c.min-i-end.ensures) in
    let there : i < length arguments = omega (arith, inside, length-map terms (inst c.args.body.now)) in
    let formula = inst c.args.body.now c.index-terms-i.result in
    let is_formula : formula ≡ get_or arguments i formula = ap (inst c.args.body.now) c.index-terms-i.is ∙ sym (get_or-map (inst c.args.body.now) terms i c.index-terms-i.result formula inside) in
    elim c.if-is_instance.branch [
      | then-is_instance w ↦
          ap (λ (s : List ℕ). has s v || carries (with_signs (drop (i + 1) sets) (drop (i + 1) arguments)) f v) (w.covered-is ∙ w.union-covered.ensures)
          ∙ stands g.row.N sets arguments f i w.index-sets-i.result formula here there w.index-sets-i.is is_formula c.loop-i.covered v lt (sym (same_formula_test c.is_instance.result f formula c.is_instance.ensures.means) ∙ w.if-is_instance.true)
          ∙ c.loop-i.invariant v lt
      | else-is_instance w ↦
          ap (λ (s : List ℕ). has s v || carries (with_signs (drop (i + 1) sets) (drop (i + 1) arguments)) f v) w.covered-is
          ∙ stands_not g.row.N sets arguments f i (get_or sets i []) formula here there (get_or_default sets i [] (get_or sets i []) here) is_formula c.loop-i.covered v (sym (same_formula_test c.is_instance.result f formula c.is_instance.ensures.means) ∙ w.if-is_instance.false)
          ∙ c.loop-i.invariant v lt
    ]

pub returns : goal.returns
returns g c = λ v lt. all_covered c.args.sets.now (map (inst c.args.body.now) c.args.terms.now) c.args.f.now v c.loop-i.i c.min-i-end.result (has c.loop-i.covered v) (carries (with_signs c.args.sets.now (map (inst c.args.body.now) c.args.terms.now)) c.args.f.now v) (c.min-i-end.ensures ∙ ap (min (length c.args.sets.now)) (sym (length-map c.args.terms.now (inst c.args.body.now)))) c.loop-i-test.false (c.loop-i.invariant v lt)
