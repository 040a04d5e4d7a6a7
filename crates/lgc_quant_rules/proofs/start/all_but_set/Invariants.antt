-- There is an `all` set for each value before.
use Rattle.std.proofs.Common.{◌≡◌}
use Rattle.lgc_quant_rules.proofs.Starts.{clause_below}
use Rattle.lgc_quant_rules.proofs.start.all_but_set.Given as goal

abbrev pub invariant-loop-v : goal.invariant-loop-v
invariant-loop-v g l = l.sets.items ≡ clause_below g.row.N l.set l.v
