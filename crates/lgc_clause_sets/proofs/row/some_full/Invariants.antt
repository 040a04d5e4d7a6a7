-- The rest of the sets tells the answer.
use Rattle.std.proofs.Common.{◌≡◌, drop}
use Rattle.lgc_clause_sets.specs.AtomClauses.{has_full}
use Rattle.lgc_clause_sets.proofs.row.some_full.Given as goal

abbrev pub invariant-loop-set : goal.invariant-loop-set
invariant-loop-set g l = has_full g.row.N l.sets ≡ has_full g.row.N (drop l.set-index l.sets)
