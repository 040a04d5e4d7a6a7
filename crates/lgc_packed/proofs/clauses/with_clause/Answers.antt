-- One set more is added, where there is one.
use Rattle.std.proofs.Common.{◌∙◌}
use Rattle.lgc_packed.proofs.ClauseLaws.{clause_more, clause_past}
use Rattle.lgc_packed.proofs.clauses.with_clause.Goals.{then-i-sets+in_ok-add, else-i-sets}
use Rattle.lgc_packed.proofs.clauses.with_clause.Goals as goal

pub loop-i-preserved : goal.loop-i-preserved
loop-i-preserved g c =
    let n = g.row.N in
    let sets = c.args.sets.now in
    let arguments = c.args.arguments.now in
    let i = c.loop-i.i in
    elim c.if-i-sets.branch [
      | then-i-sets+in_ok-add w ↦ c.loop-i.invariant ∙ clause_more n arguments sets i w.index-sets-i.result c.loop-i.premise c.if-i-sets.premise c.loop-i-test.true w.if-i-sets.true w.index-sets-i.is (w.premise-is ∙ w.in_ok-add.ensures.ok)
      | else-i-sets w ↦ c.loop-i.invariant ∙ clause_past n arguments sets i c.loop-i.premise c.if-i-sets.premise w.if-i-sets.false w.premise-is
    ]
