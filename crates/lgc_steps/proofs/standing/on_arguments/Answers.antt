-- One more set stands on the formula or not.
use Rattle.std.proofs.Common.{◌||◌, sym, ap, ◌∙◌, ◌+◌, ◌<◌, [], length, drop, get_or, arith, List, ℕ}
use Rattle.std.proofs.lemmas.List.{get_or_default}
use Rattle.lgc_values.specs.Values.{has}
use Rattle.lgc_sequents.specs.Steps.{with_signs, carries}
use Rattle.lgc_steps.proofs.Covering.{stands, stands_not, all_covered}
use Rattle.lgc_steps.proofs.standing.on_arguments.Goals.{then-same_formula, else-same_formula}
use Rattle.lgc_steps.proofs.standing.on_arguments.Goals as goal

pub loop-i-preserved : goal.loop-i-preserved
loop-i-preserved g c = λ v lt.
    let i = c.loop-i.i in
    let sets = c.args.sets.now in
    let arguments = c.args.arguments.now in
    let f = c.args.f.now in
    let within = c.loop-i-test.true in
    let here : i < length sets = omega (arith, within, c.min-i-end.ensures) in
    let there : i < length arguments = omega (arith, within, c.min-i-end.ensures) in
    elim c.if-same_formula.branch [
      | then-same_formula w ↦
          ap (λ (s : List ℕ). has s v || carries (with_signs (drop (i + 1) sets) (drop (i + 1) arguments)) f v) (w.covered-is ∙ w.union-covered.ensures)
          ∙ stands g.row.N sets arguments f i w.index-sets-i.result c.index-arguments-i.result here there w.index-sets-i.is c.index-arguments-i.is c.loop-i.covered v lt (sym c.same_formula.ensures.test ∙ w.if-same_formula.true)
          ∙ c.loop-i.invariant v lt
      | else-same_formula w ↦
          ap (λ (s : List ℕ). has s v || carries (with_signs (drop (i + 1) sets) (drop (i + 1) arguments)) f v) w.covered-is
          ∙ stands_not g.row.N sets arguments f i (get_or sets i []) c.index-arguments-i.result here there (get_or_default sets i [] (get_or sets i []) here) c.index-arguments-i.is c.loop-i.covered v (sym c.same_formula.ensures.test ∙ w.if-same_formula.false)
          ∙ c.loop-i.invariant v lt
    ]

pub returns : goal.returns
returns g c = λ v lt. all_covered c.args.sets.now c.args.arguments.now c.args.f.now v c.loop-i.i c.min-i-end.result (has c.loop-i.covered v) (carries (with_signs c.args.sets.now c.args.arguments.now) c.args.f.now v) c.min-i-end.ensures c.loop-i-test.false (c.loop-i.invariant v lt)
