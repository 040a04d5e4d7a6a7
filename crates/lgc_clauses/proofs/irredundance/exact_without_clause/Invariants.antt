use Rattle.std.specs.List.{remove}
use Rattle.lgc_clauses.specs.Kinds.{plain_rule}
use Rattle.lgc_clauses.specs.Exactness.{AgreesBelow}
use Rattle.lgc_clauses.specs.Irredundance.{with_clauses}
use Rattle.lgc_clauses.proofs.irredundance.exact_without_clause.Given as goal

abbrev pub invariant-loop-row : goal.invariant-loop-row
invariant-loop-row g l = AgreesBelow l.m (with_clauses (plain_rule l.rule) (remove (plain_rule l.rule).clauses l.i)) l.row
