-- The least value that the formula's sign lacks.
use Rattle.lgc_lemmas.proofs.Refuting.{some_missing, outside_here}
use Rattle.lgc_lemmas.proofs.atoms.value_outside.Goals as goal

pub returns-in-Some-clause-outside : goal.returns-in-Some-clause-outside
returns-in-Some-clause-outside g c = outside_here g.row.N c.args.number c.in-Some.value c.args.pairs.now c.loop-pair.pair-index c.pair-item.result c.requires.packed c.loop-pair-test.true c.pair-item.is c.if-other-number.true c.in-Some.ensures

pub unreachable-requires : goal.unreachable-requires
unreachable-requires g c = some_missing g.row.N c.args.pairs.now c.loop-pair.pair-index c.pair-item.result c.requires.not_full c.loop-pair-test.true c.pair-item.is c.in-None.ensures
