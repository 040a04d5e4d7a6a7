use Rattle.std.proofs.Common.{length}
use Rattle.lgc_values.proofs.ValueLaws.{with_below}
use Rattle.lgc_spec.proofs.ValueSteps.{values_named_more}
use Rattle.lgc_spec.proofs.values.mask_named.Goals as goal

pub loop-word-preserved : goal.loop-word-preserved
loop-word-preserved c = record {
  members = values_named_more c.args.bytes.now c.args.names.now c.args.words.now c.loop-word.word-index _ c.value_of.result c.loop-word.mask c.loop-word-test.true c.loop-word.invariant.members c.value_of.ensures.value c.value_of.ensures.below c.requires.few;
  below = with_below (length c.args.names.now) c.loop-word.mask c.value_of.result c.loop-word.invariant.below c.value_of.ensures.below c.requires.few;
}
