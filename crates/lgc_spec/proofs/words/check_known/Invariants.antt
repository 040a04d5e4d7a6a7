use Rattle.std.proofs.Common.{◌≡◌, take, None}
use Rattle.lgc_spec.specs.Words.{first_unknown}
use Rattle.lgc_spec.proofs.words.check_known.Given as goal

abbrev pub invariant-loop-word : goal.invariant-loop-word
invariant-loop-word l = first_unknown l.bytes l.names (take l.word-index l.words) ≡ None
