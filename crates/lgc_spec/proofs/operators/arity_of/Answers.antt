use Rattle.lgc_tokens.proofs.NumberLaws.{number_above}
use Rattle.lgc_spec.proofs.operators.arity_of.Goals as goal

pub returns-then-arity-gt-MOST_ARGUMENTS : goal.returns-then-arity-gt-MOST_ARGUMENTS
returns-then-arity-gt-MOST_ARGUMENTS c =
    number_above c.args.digits.now c.loop-digit.digit-index c.loop-digit.arity c.saturating_sub.result 4 c.loop-digit-test.true c.loop-digit.invariant.so_far c.saturating_sub.ensures c.if-arity-gt-MOST_ARGUMENTS.true
