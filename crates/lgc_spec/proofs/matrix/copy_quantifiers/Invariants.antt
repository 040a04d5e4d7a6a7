use Rattle.std.proofs.Common.{◌≡◌, take}
use Rattle.lgc_spec.proofs.matrix.copy_quantifiers.Given as goal

abbrev pub invariant-loop-quantifier : goal.invariant-loop-quantifier
invariant-loop-quantifier l = l.copies ≡ take l.quantifier-index l.quantifiers
