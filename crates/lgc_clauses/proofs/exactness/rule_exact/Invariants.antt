use Rattle.lgc_clauses.specs.Kinds.{plain_rule}
use Rattle.lgc_clauses.specs.Exactness.{AgreesBelow}
use Rattle.lgc_clauses.proofs.exactness.rule_exact.Given as goal

abbrev pub invariant-loop-row : goal.invariant-loop-row
invariant-loop-row g l = AgreesBelow l.m (plain_rule l.rule) l.row
