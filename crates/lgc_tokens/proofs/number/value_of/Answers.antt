use Rattle.std.proofs.Common.{arith}
use Rattle.lgc_tokens.proofs.NumberLaws.{number_above}
use Rattle.lgc_tokens.proofs.number.value_of.Goals as goal

pub returns-then-number-from : goal.returns-then-number-from
returns-then-number-from c =
    number_above c.args.digits.now c.loop-digit.digit-index c.loop-digit.number c.saturating_sub.result c.args.most c.loop-digit-test.true c.loop-digit.invariant.so_far c.saturating_sub.ensures (omega (arith, c.from.ensures, c.from-in-loop-digit.ensures, c.if-number-from.true))
