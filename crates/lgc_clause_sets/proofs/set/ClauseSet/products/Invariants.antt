-- The joins of the clauses so far are reduced.
use Rattle.std.proofs.Common.{take}
use Rattle.lgc_clause_sets.specs.AtomClauses.{products}
use Rattle.lgc_clause_sets.specs.Reductions.{IsReduction}
use Rattle.lgc_clause_sets.proofs.set.ClauseSet.products.Given as goal

abbrev pub invariant-loop-row : goal.invariant-loop-row
invariant-loop-row g l = IsReduction g.row.N (products g.row.N (take l.row-index l.self) l.others) l.kept
