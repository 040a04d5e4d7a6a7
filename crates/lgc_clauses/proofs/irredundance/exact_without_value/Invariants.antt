use Rattle.lgc_clauses.specs.Kinds.{plain_rule}
use Rattle.lgc_clauses.specs.Exactness.{AgreesBelow}
use Rattle.lgc_clauses.specs.Irredundance.{with_clauses, clauses_without}
use Rattle.lgc_clauses.proofs.irredundance.exact_without_value.Given as goal

abbrev pub invariant-loop-row : goal.invariant-loop-row
invariant-loop-row g l = AgreesBelow l.m (with_clauses (plain_rule l.rule) (clauses_without (plain_rule l.rule).clauses l.i l.j l.v)) l.row
