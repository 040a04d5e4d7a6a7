use Rattle.std.proofs.Common.{◌≡◌, take, map}
use Rattle.lgc_spec.specs.Words.{text_of}
use Rattle.lgc_spec.proofs.values.texts.Given as goal

abbrev pub invariant-loop-word : goal.invariant-loop-word
invariant-loop-word l = l.names ≡ map (text_of l.bytes) (take l.word-index l.words)
