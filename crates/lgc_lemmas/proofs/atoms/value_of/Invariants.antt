-- The row of the values so far.
use Rattle.std.proofs.Common.{◌≡◌, ◌<◌, ◌≤◌, ◌^◌, map, take, slice_index}
use Rattle.lgc_syntax.specs.Values.{row_index}
use Rattle.lgc_lemmas.proofs.atoms.value_of.Given as goal

abbrev pub invariant-loop-argument : goal.invariant-loop-argument
invariant-loop-argument g l = record {
  row : l.row ≡ row_index l.m.size (map (slice_index l.values) (take l.argument-index l.arguments));
  below : l.row < l.m.size ^ l.argument-index;
}
