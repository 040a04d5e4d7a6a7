-- How the loop appends the numbers of the arguments.
use Rattle.std.proofs.Common.{◌≡◌, ◌+◌, ◌∷◌, take}
use Rattle.lgc_numbering.proofs.keys.key_of_compound.Given as goal

abbrev pub invariant-loop-arg : goal.invariant-loop-arg
invariant-loop-arg l = l.key ≡ (l.op + 1) ∷ take l.arg-index l.args
