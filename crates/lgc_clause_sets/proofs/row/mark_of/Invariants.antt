-- The sets so far are marked.
use Rattle.std.proofs.Common.{take}
use Rattle.lgc_clause_sets.specs.Marks.{IsMark}
use Rattle.lgc_clause_sets.proofs.row.mark_of.Given as goal

abbrev pub invariant-loop-place : goal.invariant-loop-place
invariant-loop-place g l = IsMark (take l.place l.sets) l.mark
