-- The sets so far have all values but the argument.
use Rattle.std.proofs.Common.{◌≡◌, ◌==◌, not, map, take}
use Rattle.lgc_values.specs.Values.{values_where}
use Rattle.lgc_values.specs.Logic.{arguments_at}
use Rattle.lgc_op_rules.proofs.table.all_but_row.Given as goal

abbrev pub invariant-loop-j : goal.invariant-loop-j
invariant-loop-j g l = l.sets.items ≡ map (λ argument. values_where g.row.N (λ v. not (v == argument))) (take l.j (arguments_at g.row.N l.arity l.row))
