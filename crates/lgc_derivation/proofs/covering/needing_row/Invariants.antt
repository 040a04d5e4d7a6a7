-- At no row before is the clause the only one that is false.
use Rattle.std.proofs.Common.{ℕ, ◌<◌, ◌≡◌, false}
use Rattle.std.specs.List.{remove}
use Rattle.lgc_clauses.specs.Irredundance.{clause_at}
use Rattle.lgc_derivation.specs.Tables.{all_hold_over}
use Rattle.lgc_derivation.proofs.covering.needing_row.Given as goal

abbrev pub invariant-loop-row : goal.invariant-loop-row
invariant-loop-row g l = (row : ℕ) → row < l.row → (g.T.Table.plain l.table).holds (clause_at l.clauses l.i) row ≡ false → all_hold_over (g.T.Table.plain l.table) (remove l.clauses l.i) row ≡ false
