use Rattle.std.proofs.Common.{◌≡◌, drop}
use Rattle.lgc_clauses.specs.Rules.{clause_holds}
use Rattle.lgc_clauses.proofs.clause.sets_hold.Given as goal

abbrev pub invariant-loop-j : goal.invariant-loop-j
invariant-loop-j g l = clause_holds g.row.N (drop l.j l.sets) l.row ≡ clause_holds g.row.N l.sets l.row
