use Rattle.std.proofs.Common.{arith}
use Rattle.lgc_spec.proofs.InductionSteps.{few_rows}
use Rattle.lgc_spec.proofs.induced.holds.Goals as goal

pub argument_at-a-requires-clause-rows : goal.argument_at-a-requires-clause-rows
argument_at-a-requires-clause-rows c = few_rows c.args.n 1 c.requires.some c.requires.few (omega arith)

pub argument_at-a-requires-in-Associative-clause-rows : goal.argument_at-a-requires-in-Associative-clause-rows
argument_at-a-requires-in-Associative-clause-rows c = few_rows c.args.n 3 c.requires.some c.requires.few (omega arith)

pub argument_at-b-requires-in-Associative-clause-rows : goal.argument_at-b-requires-in-Associative-clause-rows
argument_at-b-requires-in-Associative-clause-rows c = few_rows c.args.n 3 c.requires.some c.requires.few (omega arith)

pub argument_at-c-requires-clause-rows : goal.argument_at-c-requires-clause-rows
argument_at-c-requires-clause-rows c = few_rows c.args.n 3 c.requires.some c.requires.few (omega arith)
