-- One more set is joined; then come the sets past the shorter clause.
use Rattle.std.proofs.Common.{arith}
use Rattle.lgc_clause_sets.proofs.Walking.{joined_more, joined_end}
use Rattle.lgc_clause_sets.proofs.row.unions.Goals as goal

pub loop-i-preserved : goal.loop-i-preserved
loop-i-preserved g c =
    joined_more g.row.N c.args.sets.now c.args.others.now c.loop-i.i c.index-sets-i.result c.index-others-i.result c.loop-i.made.items c.union.result c.push.new.self.items (omega arith) (omega arith) c.index-sets-i.is c.index-others-i.is c.union.ensures c.in_ok-push.ensures.items c.loop-i.invariant

pub returns : goal.returns
returns g c =
    joined_end g.row.N c.args.sets.now c.args.others.now c.loop-i.i c.min-common.result c.loop-i.made.items c.extend_from_slice.new.self.items c.extend_from_slice-2.new.self.items c.of_vec.result c.min-common.ensures (omega (arith, c.loop-i-test.false)) c.in_ok-extend_from_slice.ensures.items c.in_ok-extend_from_slice-2.ensures.items c.of_vec.ensures c.loop-i.invariant
