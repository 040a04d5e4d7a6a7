-- The clause of the sets after this one is false, and the rest of the index has the digits before.
use Rattle.std.proofs.Common.{◌≡◌, ◌-◌, ◌/◌, ◌^◌, false, drop, length}
use Rattle.lgc_clauses.specs.Rules.{clause_holds}
use Rattle.lgc_op_rules.proofs.table.some_argument_in.Given as goal

abbrev pub invariant-loop-i : goal.invariant-loop-i
invariant-loop-i g l = record {
  rest : l.rest ≡ l.row / g.row.N ^ l.i;
  none : clause_holds g.row.N (drop (length l.sets - l.i) l.sets) l.row ≡ false;
}
