-- There is a value for each node so far.
use Rattle.std.proofs.Common.{◌≡◌, length}
use Rattle.lgc_lemmas.proofs.Refuting.{AreValuesSoFar}
use Rattle.lgc_lemmas.proofs.atoms.refute.Given as goal

abbrev pub invariant-loop-k : goal.invariant-loop-k
invariant-loop-k g l = (length l.values ≡ l.k) × AreValuesSoFar l.m l.nodes l.pairs l.values
