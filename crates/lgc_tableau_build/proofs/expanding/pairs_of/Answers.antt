-- One pair more, where there is a set.
use Rattle.std.proofs.Common.{◌∙◌}
use Rattle.lgc_tableau_build.proofs.BranchLaws.{pair_more, pair_past}
use Rattle.lgc_tableau_build.proofs.expanding.pairs_of.Goals.{then-i-sets+in_ok-push, else-i-sets}
use Rattle.lgc_tableau_build.proofs.expanding.pairs_of.Goals as goal

pub loop-i-preserved : goal.loop-i-preserved
loop-i-preserved g c =
    let args = c.args.args.now in
    let sets = c.args.sets.now in
    let i = c.loop-i.i in
    elim c.if-i-sets.branch [
      | then-i-sets+in_ok-push w ↦ pair_more args sets i w.index-sets-i.result c.loop-i.pairs c.if-i-sets.pairs c.loop-i-test.true w.if-i-sets.true w.index-sets-i.is (w.pairs-is ∙ w.in_ok-push.ensures.ok) c.loop-i.invariant
      | else-i-sets w ↦ pair_past args sets i c.loop-i.pairs c.if-i-sets.pairs w.if-i-sets.false w.pairs-is c.loop-i.invariant
    ]
