-- The term isn't among the others so far.
use Rattle.std.proofs.Common.{◌≡◌, drop}
use Rattle.std.specs.List.{list_any}
use Rattle.lgc_syntax.specs.Equality.{same_term}
use Rattle.lgc_steps.proofs.premises.is_among.Given as goal

abbrev pub invariant-loop-other : goal.invariant-loop-other
invariant-loop-other l = list_any (same_term l.term) l.others ≡ list_any (same_term l.term) (drop l.other-index l.others)
