-- They agree at the rows before.
use Rattle.lgc_clauses.specs.Rules.{of_operator}
use Rattle.lgc_clauses.specs.Exactness.{AgreesBelow}
use Rattle.lgc_tableau.specs.ClosedTableaux.{rule_of}
use Rattle.lgc_tableau_check.proofs.split.are_exact.Given as goal

abbrev pub invariant-loop-row : goal.invariant-loop-row
invariant-loop-row g l = AgreesBelow l.m (of_operator (rule_of l.op l.sign l.cases)) l.row
