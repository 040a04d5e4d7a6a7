use Rattle.std.proofs.Common.{◌≡◌, ◌++◌, map}
use Rattle.lgc_values.specs.Values.{members_of}
use Rattle.lgc_spec.proofs.orderings.add_from.Given as goal

abbrev pub invariant-loop-b : goal.invariant-loop-b
invariant-loop-b l = l.links.items ≡ l.initial.links.items ++ map (λ b. (l.a, b)) (members_of l.b l.right)
