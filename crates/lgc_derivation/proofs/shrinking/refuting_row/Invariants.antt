-- The clause is true at the rows of the target before this one.
use Rattle.std.proofs.Common.{ℕ, ◌<◌, ◌≡◌, true}
use Rattle.lgc_derivation.proofs.shrinking.refuting_row.Given as goal

abbrev pub invariant-loop-row : goal.invariant-loop-row
invariant-loop-row g l = (row : ℕ) → row < l.row → (g.T.Table.plain l.table).target row ≡ true → (g.T.Table.plain l.table).holds l.sets row ≡ true
