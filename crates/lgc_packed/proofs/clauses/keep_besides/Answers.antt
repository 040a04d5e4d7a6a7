-- What one pair more has besides the clause is kept.
use Rattle.std.specs.List.{zip}
use Rattle.lgc_packed.proofs.ClauseLaws.{kept_more}
use Rattle.lgc_packed.proofs.clauses.keep_besides.Goals as goal

pub loop-pair-preserved : goal.loop-pair-preserved
loop-pair-preserved g c k w lt =
    kept_more g.row.N (zip c.args.arguments.now c.args.sets.now) c.pairs-pair-items.result.now c.args.kept c.loop-pair.kept c.add.new.self c.loop-pair.pair-index c.pair-item.result c.besides.result k w lt c.loop-pair-test.true c.pair-item.is c.besides.ensures c.in_ok-add.ensures.ok (c.loop-pair.invariant k w lt)
