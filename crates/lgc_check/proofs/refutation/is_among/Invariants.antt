-- The formula isn't among the others so far.
use Rattle.std.proofs.Common.{◌≡◌, drop}
use Rattle.std.specs.List.{list_any}
use Rattle.lgc_syntax.specs.Equality.{same_formula}
use Rattle.lgc_check.proofs.refutation.is_among.Given as goal

abbrev pub invariant-loop-other : goal.invariant-loop-other
invariant-loop-other l = list_any (same_formula l.f) l.others ≡ list_any (same_formula l.f) (drop l.other-index l.others)
