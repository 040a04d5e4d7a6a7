-- The clauses so far are added.
use Rattle.std.proofs.Common.{◌≡◌, ◌++◌, length}
use Rattle.std.specs.Vec.Iter.{into_iter_items, into_iter_len}
use Rattle.lgc_clause_sets.specs.Reductions.{Reduces}
use Rattle.lgc_clause_sets.proofs.set.ClauseSet.add_each.Given as goal

abbrev pub invariant-loop-row : goal.invariant-loop-row
invariant-loop-row g l =
    (l.yielded ++ into_iter_items l.row-iterator ≡ into_iter_items l.initial.row-iterator) × (into_iter_len l.row-iterator ≡ length (into_iter_items l.row-iterator)) × Reduces g.row.N l.yielded l.initial.self l.self
