-- The row with one value more.
use Rattle.std.proofs.Common.{arith}
use Rattle.lgc_lemmas.proofs.Refuting.{row_fits, row_more, row_index_more}
use Rattle.lgc_lemmas.proofs.atoms.value_of.Goals as goal

pub overflow_mul-row : goal.overflow_mul-row
overflow_mul-row g c = omega (arith, row_fits c.args.m.now c.args.op c.args.values.now c.args.arguments.now c.operators-operators.ensures.logic c.requires.known c.requires.arity c.requires.values c.loop-argument.argument-index c.loop-argument.row c.loop-argument-test.true c.loop-argument.invariant.below g.row.N c.operators-operators.ensures.size)

pub overflow_add-row : goal.overflow_add-row
overflow_add-row g c = omega (arith, row_fits c.args.m.now c.args.op c.args.values.now c.args.arguments.now c.operators-operators.ensures.logic c.requires.known c.requires.arity c.requires.values c.loop-argument.argument-index c.loop-argument.row c.loop-argument-test.true c.loop-argument.invariant.below g.row.N c.operators-operators.ensures.size)

pub loop-argument-preserved : goal.loop-argument-preserved
loop-argument-preserved g c = record {
  row = row_index_more c.args.m.now c.args.op c.args.values.now c.args.arguments.now c.operators-operators.ensures.logic c.requires.known c.requires.arity c.requires.values c.loop-argument.argument-index c.loop-argument.row c.loop-argument-test.true c.loop-argument.invariant.below g.row.N c.operators-operators.ensures.size c.loop-argument.invariant.row;
  below = row_more c.args.m.now c.args.op c.args.values.now c.args.arguments.now c.operators-operators.ensures.logic c.requires.known c.requires.arity c.requires.values c.loop-argument.argument-index c.loop-argument.row c.loop-argument-test.true c.loop-argument.invariant.below g.row.N c.operators-operators.ensures.size;
}
