-- Why the unfolding ends, and the derivations so far.
use Rattle.std.proofs.Common.{◌+◌, ◌*◌, take}
use Rattle.lgc_trees.specs.Unfolded.{cited_at, AreUnfolded}
use Rattle.lgc_trees.proofs.unfolding.+unfold.Given as goal

abbrev pub decreases-unfold : goal.decreases-unfold
decreases-unfold g l = 2 * l.position + 1

abbrev pub decreases-unfold_cited : goal.decreases-unfold_cited
decreases-unfold_cited g l = 2 * l.position

abbrev pub invariant-unfold_cited-loop-i : goal.invariant-unfold_cited-loop-i
invariant-unfold_cited-loop-i g l = AreUnfolded g.row.N l.lines (take l.i (cited_at l.lines l.position)) l.derivations
