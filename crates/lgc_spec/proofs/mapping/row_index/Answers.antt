use Rattle.std.proofs.Common.{length, arith}
use Rattle.lgc_spec.proofs.Indices.{index_next}
use Rattle.lgc_spec.proofs.mapping.row_index.Goals as goal

pub overflow_mul-index : goal.overflow_mul-index
overflow_mul-index c =
    let next = index_next (length c.args.names.now) c.loop-word.index c.loop-word.word-index (length c.args.arguments.now) 0 c.requires.some c.requires.few c.requires.narrow c.loop-word-test.true c.loop-word.invariant.below c.requires.some in
    omega (arith, next.1)

pub overflow_add-index : goal.overflow_add-index
overflow_add-index c =
    let next = index_next (length c.args.names.now) c.loop-word.index c.loop-word.word-index (length c.args.arguments.now) c.value_of.result c.requires.some c.requires.few c.requires.narrow c.loop-word-test.true c.loop-word.invariant.below c.value_of.ensures.below in
    omega (arith, next.1, c.from.ensures)
