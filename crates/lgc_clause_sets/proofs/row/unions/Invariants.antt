-- The rest of the sets is to be joined.
use Rattle.std.proofs.Common.{◌≡◌, ◌++◌, drop}
use Rattle.lgc_clause_sets.specs.AtomClauses.{joined}
use Rattle.lgc_clause_sets.proofs.row.unions.Given as goal

abbrev pub invariant-loop-i : goal.invariant-loop-i
invariant-loop-i g l = joined g.row.N l.sets l.others ≡ l.made.items ++ joined g.row.N (drop l.i l.sets) (drop l.i l.others)
