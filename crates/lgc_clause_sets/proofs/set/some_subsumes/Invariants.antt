-- The rest of the clauses tells the answer.
use Rattle.std.proofs.Common.{◌≡◌, drop}
use Rattle.std.specs.List.{list_any}
use Rattle.lgc_clause_sets.specs.AtomClauses.{subsumes}
use Rattle.lgc_clause_sets.proofs.set.some_subsumes.Given as goal

abbrev pub invariant-loop-kept : goal.invariant-loop-kept
invariant-loop-kept g l = list_any (λ kept. subsumes kept l.row) l.rows ≡ list_any (λ kept. subsumes kept l.row) (drop l.kept-index l.rows)
