use Rattle.std.proofs.Common.{◌≡◌, ◌<◌, ◌^◌, take, length}
use Rattle.lgc_values.specs.Values.{members_of}
use Rattle.lgc_spec.specs.Values.{values_named}
use Rattle.lgc_spec.proofs.values.mask_named.Given as goal

abbrev pub invariant-loop-word : goal.invariant-loop-word
invariant-loop-word l = record {
  members : members_of (length l.names) l.mask ≡ values_named l.bytes l.names (take l.word-index l.words);
  below : l.mask < 2 ^ length l.names;
}
