-- A pair is the first one, or no earlier one is full either.
use Rattle.std.proofs.Common.{length, sym, ◌∙◌, arith}
use Rattle.std.proofs.lemmas.Bool.{true≢false}
use Rattle.lgc_tableau_build.proofs.BranchLaws.{number_known, sign_read, first_there, none_more, none_at_all}
use Rattle.lgc_tableau_build.proofs.branch.first_full.Goals as goal

pub offset_bounds-signs-number : goal.offset_bounds-signs-number
offset_bounds-signs-number g c =
    let known = number_known (length c.args.signs.now) c.args.branch.now c.loop-pair.pair-index c.pair-item.result c.requires.known c.loop-pair-test.true c.pair-item.is in
    omega (arith, known)

pub bounds-signs-number : goal.bounds-signs-number
bounds-signs-number g c = number_known (length c.args.signs.now) c.args.branch.now c.loop-pair.pair-index c.pair-item.result c.requires.known c.loop-pair-test.true c.pair-item.is

pub returns-then-is_full : goal.returns-then-is_full
returns-then-is_full g c =
    let known = number_known (length c.args.signs.now) c.args.branch.now c.loop-pair.pair-index c.pair-item.result c.requires.known c.loop-pair-test.true c.pair-item.is in
    let both = c.is_full.ensures.0 c.if-is_full.true in
    first_there g.row.N c.args.branch.now c.loop-pair.pair-index c.pair-item.result c.loop-pair-test.true c.pair-item.is both.0
    (λ w lt. sym (sign_read g.row.N c.args.branch.now c.args.signs.now c.pair-item.result.0 c.index-signs-number.result known c.index-signs-number.is c.requires.signs w lt) ∙ both.1 w lt) c.loop-pair.invariant

pub loop-pair-preserved : goal.loop-pair-preserved
loop-pair-preserved g c =
    let known = number_known (length c.args.signs.now) c.args.branch.now c.loop-pair.pair-index c.pair-item.result c.requires.known c.loop-pair-test.true c.pair-item.is in
    none_more g.row.N c.args.branch.now c.loop-pair.pair-index c.pair-item.result c.loop-pair-test.true c.pair-item.is
    (λ signed full. true≢false (sym (c.is_full.ensures.1 (signed, λ w lt. sign_read g.row.N c.args.branch.now c.args.signs.now c.pair-item.result.0 c.index-signs-number.result known c.index-signs-number.is c.requires.signs w lt ∙ full w lt)) ∙ c.if-is_full.false))
    c.loop-pair.invariant

pub returns : goal.returns
returns g c = none_at_all g.row.N c.args.branch.now c.loop-pair.pair-index (omega (arith, c.requires.size.low)) c.loop-pair-test.false c.loop-pair.invariant
