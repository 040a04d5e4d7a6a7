-- There are the goals at the tuples before.
use Rattle.std.proofs.Common.{◌≡◌, ◌+◌, length, map}
use Rattle.std.specs.List.{range_with_len}
use Rattle.lgc_values.specs.Logic.{arguments_at}
use Rattle.lgc_goals.specs.Goals.{quasi_goal}
use Rattle.lgc_goals.proofs.goal.goals_of_quasi.Given as goal

abbrev pub invariant-loop-tuple : goal.invariant-loop-tuple
invariant-loop-tuple g l = l.goals ≡ map (λ i. quasi_goal g.row.N l.premises l.conclusion (arguments_at g.row.N (length l.premises + 1) i)) (range_with_len 0 l.tuple)
