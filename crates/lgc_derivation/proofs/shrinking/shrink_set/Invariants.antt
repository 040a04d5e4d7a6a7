-- The values before are settled.
use Rattle.std.proofs.Common.{ℕ, ◌<◌}
use Rattle.lgc_derivation.specs.Parts.{IsWithin}
use Rattle.lgc_derivation.specs.Derived.{Follows, IsSettled}
use Rattle.lgc_derivation.proofs.shrinking.shrink_set.Given as goal

abbrev pub invariant-loop-v : goal.invariant-loop-v
invariant-loop-v g l = record {
  within : IsWithin l.sets l.initial.sets;
  follows : Follows (g.T.Table.plain l.table) l.sets;
  settled : (v : ℕ) → v < l.v → IsSettled (g.T.Table.plain l.table) l.sets l.j v;
}
