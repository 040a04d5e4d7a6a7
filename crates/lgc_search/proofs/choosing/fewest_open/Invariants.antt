-- The best one so far is a compound.
use Rattle.lgc_lemmas.specs.Nodes.{IsCompoundAt}
use Rattle.lgc_search.proofs.choosing.fewest_open.Given as goal

abbrev pub invariant-loop-at : goal.invariant-loop-at
invariant-loop-at g l = IsCompoundAt l.nodes l.goal l.best
