-- Each clause before is needed, and what all clauses say is as it was.
use Rattle.std.proofs.Common.{ℕ, ◌<◌, ◌≡◌, ◌-◌, length, ◌≤◌}
use Rattle.std.specs.Prelude.{All, Contains}
use Rattle.lgc_clauses.specs.Rules.{IsRising}
use Rattle.lgc_derivation.specs.Tables.{all_hold_over}
use Rattle.lgc_derivation.specs.Derived.{NeedsAt}
use Rattle.lgc_derivation.proofs.covering.take_out_covered.Given as goal

abbrev pub invariant-loop-i : goal.invariant-loop-i
invariant-loop-i g l = record {
  within : l.i ≤ length l.clauses.items;
  kept : All (Contains l.initial.clauses.items) l.clauses.items;
  same : (row : ℕ) → row < (g.T.Table.plain l.table).count → all_hold_over (g.T.Table.plain l.table) l.clauses.items row ≡ all_hold_over (g.T.Table.plain l.table) l.initial.clauses.items row;
  needed : (k : ℕ) → k < l.i → (row : ℕ) × NeedsAt (g.T.Table.plain l.table) l.clauses.items k row;
  rising : IsRising l.clauses.items;
}

abbrev pub decreases-loop-i : goal.decreases-loop-i
decreases-loop-i g l = length l.clauses.items - l.i
