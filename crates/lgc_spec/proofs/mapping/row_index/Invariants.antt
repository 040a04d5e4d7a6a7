use Rattle.std.proofs.Common.{◌≡◌, ◌<◌, ◌^◌, take, map, length}
use Rattle.lgc_spec.specs.Words.{value_of}
use Rattle.lgc_spec.specs.Rows.{index_of}
use Rattle.lgc_spec.proofs.mapping.row_index.Given as goal

abbrev pub invariant-loop-word : goal.invariant-loop-word
invariant-loop-word l = record {
  so_far : l.index ≡ index_of (length l.names) (map (value_of l.bytes l.names) (take l.word-index l.arguments));
  below : l.index < length l.names ^ l.word-index;
}
