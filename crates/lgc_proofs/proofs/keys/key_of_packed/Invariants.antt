-- The keys of the pairs so far.
use Rattle.std.proofs.Common.{◌≡◌, take}
use Rattle.lgc_proofs.specs.Store.{key_of}
use Rattle.lgc_proofs.proofs.keys.key_of_packed.Given as goal

abbrev pub invariant-loop-pair : goal.invariant-loop-pair
invariant-loop-pair g l = l.key ≡ key_of (take l.pair-index l.pair-items)
