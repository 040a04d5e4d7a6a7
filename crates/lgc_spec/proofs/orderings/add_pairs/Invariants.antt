use Rattle.std.proofs.Common.{◌≡◌, ◌++◌}
use Rattle.lgc_values.specs.Values.{members_of}
use Rattle.lgc_spec.specs.Orderings.{pairs_of}
use Rattle.lgc_spec.proofs.orderings.add_pairs.Given as goal

abbrev pub invariant-loop-a : goal.invariant-loop-a
invariant-loop-a l = l.links.items ≡ l.initial.links.items ++ pairs_of (members_of l.a l.left) (members_of l.n l.right)
