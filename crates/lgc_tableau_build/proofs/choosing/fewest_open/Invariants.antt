-- The best one so far is no argument of another one.
use Rattle.lgc_tableau_build.specs.Numbers.{IsFree}
use Rattle.lgc_tableau_build.proofs.choosing.fewest_open.Given as goal

abbrev pub invariant-loop-k : goal.invariant-loop-k
invariant-loop-k g l = IsFree l.nodes l.left l.best
