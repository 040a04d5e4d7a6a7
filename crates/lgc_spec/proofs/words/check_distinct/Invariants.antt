use Rattle.std.proofs.Common.{◌≡◌, take, None}
use Rattle.lgc_spec.specs.Words.{first_repeat}
use Rattle.lgc_spec.proofs.words.check_distinct.Given as goal

abbrev pub invariant-loop-i : goal.invariant-loop-i
invariant-loop-i l = first_repeat l.number l.bytes (take l.i l.words) ≡ None
