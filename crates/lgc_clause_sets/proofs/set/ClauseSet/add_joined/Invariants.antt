-- The joins so far are added.
use Rattle.std.proofs.Common.{map, take}
use Rattle.lgc_clause_sets.specs.AtomClauses.{joined}
use Rattle.lgc_clause_sets.specs.Reductions.{Reduces}
use Rattle.lgc_clause_sets.proofs.set.ClauseSet.add_joined.Given as goal

abbrev pub invariant-loop-other : goal.invariant-loop-other
invariant-loop-other g l = Reduces g.row.N (map (joined g.row.N l.row) (take l.other-index l.others)) l.initial.self l.self
