-- The formula isn't among the items so far.
use Rattle.std.proofs.Common.{◌≡◌, false, take}
use Rattle.lgc_sequents.specs.Sequents.{occurs}
use Rattle.lgc_steps.proofs.near.place_of.Given as goal

abbrev pub invariant-loop-i : goal.invariant-loop-i
invariant-loop-i g l = occurs (take l.i l.items) l.f ≡ false
