-- The items of the pairs so far.
use Rattle.std.proofs.Common.{◌≡◌, take}
use Rattle.lgc_packed.specs.Packed.{unpacked}
use Rattle.lgc_tableau_build.proofs.closing.signed.Given as goal

abbrev pub invariant-loop-pair : goal.invariant-loop-pair
invariant-loop-pair g l = l.items ≡ unpacked l.formulas (take l.pair-index l.pairs)
