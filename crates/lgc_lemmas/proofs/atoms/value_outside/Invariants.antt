-- What stands on the formula stands on it in the pairs that are left.
use Rattle.std.proofs.Common.{◌≡◌, ℕ, drop}
use Rattle.lgc_packed.specs.Packed.{marks}
use Rattle.lgc_lemmas.proofs.atoms.value_outside.Given as goal

abbrev pub invariant-loop-pair : goal.invariant-loop-pair
invariant-loop-pair g l = (w : ℕ) → marks l.pairs l.number w ≡ marks (drop l.pair-index l.pairs) l.number w
