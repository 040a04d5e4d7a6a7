-- A pair joins its sign at its number.
use Rattle.std.proofs.Common.{◌<◌, ◌∙◌, length, length-set, arith}
use Rattle.lgc_tableau_build.proofs.BranchLaws.{number_known, signs_more}
use Rattle.lgc_tableau_build.proofs.branch.signs_of.Goals as goal

pub index-requires : goal.index-requires
index-requires g c =
    let known = number_known c.args.count c.args.branch.now c.loop-pair.pair-index c.pair-item.result c.requires.known c.loop-pair-test.true c.pair-item.is in
    omega (arith, known, c.loop-pair.invariant.count, c.loop-pair.signs.ok.0)

pub index_mut-requires : goal.index_mut-requires
index_mut-requires g c =
    let known = number_known c.args.count c.args.branch.now c.loop-pair.pair-index c.pair-item.result c.requires.known c.loop-pair-test.true c.pair-item.is in
    omega (arith, known, c.loop-pair.invariant.count, c.loop-pair.signs.ok.0)

pub loop-pair-preserved : goal.loop-pair-preserved
loop-pair-preserved g c =
    let known = number_known c.args.count c.args.branch.now c.loop-pair.pair-index c.pair-item.result c.requires.known c.loop-pair-test.true c.pair-item.is in
    let within : c.pair-item.result.0 < length c.loop-pair.signs.items = omega (arith, known, c.loop-pair.invariant.count) in
    record {
      count = length-set c.loop-pair.signs.items c.pair-item.result.0 c.union.result ∙ c.loop-pair.invariant.count;
      signs = signs_more g.row.N c.args.branch.now c.loop-pair.pair-index c.pair-item.result c.loop-pair.signs.items c.index.result.now c.union.result c.loop-pair-test.true c.pair-item.is within c.index.ensures c.union.ensures c.loop-pair.invariant.signs;
    }
