use Rattle.lgc_spec.proofs.WordLaws.{unknown_found, unknown_passes}
use Rattle.lgc_spec.proofs.words.check_known.Goals as goal

pub returns-then-not-is_among : goal.returns-then-not-is_among
returns-then-not-is_among c =
    rw c.fault_at.ensures (unknown_found c.args.bytes.now c.args.names.now c.args.words.now c.loop-word.word-index _ _ _ c.loop-word-test.true c.loop-word.invariant c.text_of.ensures c.is_among.ensures c.if-not-is_among.true)

pub loop-word-preserved : goal.loop-word-preserved
loop-word-preserved c =
    unknown_passes c.args.bytes.now c.args.names.now c.args.words.now c.loop-word.word-index _ _ _ c.loop-word-test.true c.loop-word.invariant c.text_of.ensures c.is_among.ensures c.if-not-is_among.false
