-- A pair's formula is new, since no number and no formula stands twice.
use Rattle.std.proofs.Common.{ℕ, List, sym, subst, arith}
use Rattle.lgc_packed.specs.Packed.{IsPacked}
use Rattle.lgc_packed.specs.Packing.{AreKnown}
use Rattle.lgc_packed.proofs.PackLaws.{unpack_new, unpack_more, unpacked_all}
use Rattle.lgc_packed.proofs.packing.unpack.Goals as goal

pub add_new-requires : goal.add_new-requires
add_new-requires g c =
    let pairs : List (ℕ × List ℕ) = c.pairs-pairs.result.now in
    let new = unpack_new g.row.N c.args.formulas.now pairs c.loop-pair.pair-index c.pair-item.result c.in_ok-formula.formula c.loop-pair.sequent c.nodes-nodes.ensures.numbering
    (subst (IsPacked g.row.N) (sym c.pairs-pairs.ensures.pairs) c.pairs-pairs.ensures.packed) (subst (AreKnown c.args.formulas.now) (sym c.pairs-pairs.ensures.pairs) c.requires)
    c.loop-pair-test.true c.pair-item.is c.in_ok-formula.ensures c.loop-pair.invariant in
    (omega arith, (omega arith, new))

pub loop-pair-preserved : goal.loop-pair-preserved
loop-pair-preserved g c =
    let pairs : List (ℕ × List ℕ) = c.pairs-pairs.result.now in
    unpack_more g.row.N c.args.formulas.now pairs c.loop-pair.pair-index c.pair-item.result c.in_ok-formula.formula c.loop-pair.sequent c.nodes-nodes.ensures.numbering
    (subst (IsPacked g.row.N) (sym c.pairs-pairs.ensures.pairs) c.pairs-pairs.ensures.packed) (subst (AreKnown c.args.formulas.now) (sym c.pairs-pairs.ensures.pairs) c.requires)
    c.loop-pair-test.true c.pair-item.is c.in_ok-formula.ensures c.loop-pair.invariant c.add_new.new.self c.in_ok-add_new.ensures.ok

pub returns-clause-truth : goal.returns-clause-truth
returns-clause-truth g c = unpacked_all c.args.formulas.now c.loop-pair.sequent c.pairs-pairs.result.now c.args.p.now c.loop-pair.pair-index c.loop-pair.invariant c.loop-pair-test.false c.pairs-pairs.ensures.pairs
