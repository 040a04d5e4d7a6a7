-- The rest of the sets tells the answer.
use Rattle.std.proofs.Common.{◌≡◌, drop}
use Rattle.lgc_clause_sets.specs.AtomClauses.{subsumes}
use Rattle.lgc_clause_sets.proofs.row.lie_in.Given as goal

abbrev pub invariant-loop-i : goal.invariant-loop-i
invariant-loop-i g l = subsumes l.sets l.others ≡ subsumes (drop l.i l.sets) (drop l.i l.others)
