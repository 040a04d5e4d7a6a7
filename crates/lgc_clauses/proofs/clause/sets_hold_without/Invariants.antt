use Rattle.std.proofs.Common.{◌≡◌, drop}
use Rattle.lgc_clauses.specs.Rules.{clause_holds}
use Rattle.lgc_clauses.specs.Irredundance.{sets_without}
use Rattle.lgc_clauses.proofs.clause.sets_hold_without.Given as goal

abbrev pub invariant-loop-j : goal.invariant-loop-j
invariant-loop-j g l = clause_holds g.row.N (sets_without l.sets l.i l.v) l.row ≡ clause_holds g.row.N (drop l.j (sets_without l.sets l.i l.v)) l.row
