use Rattle.std.proofs.Common.{◌≡◌}
use Rattle.lgc_values.specs.Values.{members_of}
use Rattle.lgc_spec.specs.Words.{names_of}
use Rattle.lgc_spec.proofs.sets.member_names.Given as goal

abbrev pub invariant-loop-value : goal.invariant-loop-value
invariant-loop-value l = l.found ≡ names_of l.names (members_of l.value l.mask)
