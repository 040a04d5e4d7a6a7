-- The values of the sets before are settled.
use Rattle.std.proofs.Common.{ℕ, ◌<◌}
use Rattle.lgc_derivation.specs.Parts.{IsWithin}
use Rattle.lgc_derivation.specs.Derived.{Follows, IsSettled}
use Rattle.lgc_derivation.proofs.shrinking.shrink.Given as goal

abbrev pub invariant-loop-j : goal.invariant-loop-j
invariant-loop-j g l = record {
  within : IsWithin l.sets l.initial.sets;
  follows : Follows (g.T.Table.plain l.table) l.sets;
  settled : (j v : ℕ) → j < l.j → IsSettled (g.T.Table.plain l.table) l.sets j v;
}
