-- At each row before that is outside the target a clause is false.
use Rattle.std.proofs.Common.{ℕ, ◌<◌, ◌≡◌, false}
use Rattle.lgc_derivation.specs.Tables.{all_hold_over}
use Rattle.lgc_derivation.specs.Derived.{ArePrime}
use Rattle.lgc_derivation.proofs.derive.falsifying_clauses.Given as goal

abbrev pub invariant-loop-row : goal.invariant-loop-row
invariant-loop-row g l = record {
  prime : ArePrime (g.T.Table.plain l.table) (g.T.PrimeClauses.form l.table) l.clauses.items;
  falsified : (row : ℕ) → row < l.row → (g.T.Table.plain l.table).target row ≡ false → all_hold_over (g.T.Table.plain l.table) l.clauses.items row ≡ false;
}
