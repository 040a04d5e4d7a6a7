-- The values of one set more are taken away, where it stands on the formula.
use Rattle.std.proofs.Common.{◌∙◌}
use Rattle.lgc_packed.proofs.ClauseLaws.{besides_more, besides_other, besides_past}
use Rattle.lgc_packed.proofs.clauses.besides.Goals.{then-i-sets+then-arguments-i, else-i-sets, else-i-sets-via-then-i-sets+else-arguments-i, else-i-sets-via-else-i-sets}
use Rattle.lgc_packed.proofs.clauses.besides.Goals as goal

pub loop-i-preserved : goal.loop-i-preserved
loop-i-preserved g c v lt =
    let n = g.row.N in
    let sets = c.args.sets.now in
    let arguments = c.args.arguments.now in
    let i = c.loop-i.i in
    let left = c.loop-i.left in
    let after = c.if-i-sets.left in
    elim c.if-i-sets.branch [
      | then-i-sets+then-arguments-i w ↦ besides_more n arguments sets i c.args.number w.index-sets-i.result left w.complement.result after v lt c.loop-i-test.true w.if-i-sets.true w.index-sets-i.is w.if-arguments-i.true w.complement.ensures (w.left-is ∙ w.meet-left.ensures) ∙ c.loop-i.invariant v lt
      | else-i-sets w ↦ elim w.else-i-sets.branch [
        | else-i-sets-via-then-i-sets+else-arguments-i u ↦ besides_other n arguments sets i c.args.number left after v c.loop-i-test.true u.if-i-sets.true u.if-arguments-i.false w.left-is ∙ c.loop-i.invariant v lt
        | else-i-sets-via-else-i-sets u ↦ besides_past n arguments sets i c.args.number left after v u.if-i-sets.false w.left-is ∙ c.loop-i.invariant v lt
      ]
    ]
