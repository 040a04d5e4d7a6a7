-- The rows of arguments in the loop, and the entry of the table at the row of all of them.
use Rattle.std.proofs.Common.{◌∙◌, length, refl, arith}
use Rattle.lgc_syntax.specs.Values.{listed, value}
use Rattle.lgc_meaning.specs.Operators.{with_operators}
use Rattle.lgc_meaning.proofs.Rows.{arguments_known, arguments_few, row_none, row_more, row_digit, compound_value}
use Rattle.lgc_meaning.proofs.value.+value_by_operators.Goals as goal

pub loop-arg-init : goal.loop-arg-init
loop-arg-init t c =
    let size = c.args.size in
    let operators = c.args.operators.now in
    let items = c.items-arg-items.result.now in
    record {
      fits = (arguments_known size operators c.args.f.now c.in-Op.op c.in-Op.args items c.in-Op.is c.items-arg-items.ensures c.requires.fits).2;
      most = arguments_few size operators c.args.f.now c.in-Op.op c.in-Op.args items c.requires.operators c.in-Op.is c.items-arg-items.ensures c.requires.fits;
      row = refl;
      below = (row_none size).0;
      rows = (row_none size).1;
    }

pub loop-arg-preserved : goal.loop-arg-preserved
loop-arg-preserved t c =
    let size = c.args.size in
    let before = c.loop-arg.invariant in
    let items = c.items-arg-items.result.now in
    let i = c.loop-arg.arg-index in
    let digit = row_digit size i (length items) c.loop-arg.row c.from.result before.below (omega (arith, c.from.ensures, c.value_by_operators.ensures.below)) c.loop-arg-test.true before.most in
    record {
      fits = before.fits;
      most = before.most;
      row = row_more size (value (with_operators size c.args.operators.now) (listed c.args.v.now)) items i c.loop-arg.row c.from.result c.arg-item.result c.loop-arg-test.true c.arg-item.is before.row (c.from.ensures ∙ c.value_by_operators.ensures.value);
      below = digit.0;
      rows = digit.1;
    }

pub bounds-items-row : goal.bounds-items-row
bounds-items-row t c = (compound_value c.args.size c.args.operators.now (listed c.args.v.now) c.args.f.now c.in-Op.op c.in-Op.args c.items-arg-items.result.now c.loop-arg.arg-index c.loop-arg.row c.index-operators-op.result c.items.result.now
    c.requires.operators c.in-Op.is c.items-arg-items.ensures c.requires.fits c.loop-arg-test.false c.loop-arg.auto.arg-index-end c.loop-arg.invariant.row c.loop-arg.invariant.below c.items.ensures).0

pub returns-after-loop-arg-clause-value : goal.returns-after-loop-arg-clause-value
returns-after-loop-arg-clause-value t c = (compound_value c.args.size c.args.operators.now (listed c.args.v.now) c.args.f.now c.in-Op.op c.in-Op.args c.items-arg-items.result.now c.loop-arg.arg-index c.loop-arg.row c.index-operators-op.result c.items.result.now
    c.requires.operators c.in-Op.is c.items-arg-items.ensures c.requires.fits c.loop-arg-test.false c.loop-arg.auto.arg-index-end c.loop-arg.invariant.row c.loop-arg.invariant.below c.items.ensures).1

pub returns-after-loop-arg-clause-below : goal.returns-after-loop-arg-clause-below
returns-after-loop-arg-clause-below t c = (compound_value c.args.size c.args.operators.now (listed c.args.v.now) c.args.f.now c.in-Op.op c.in-Op.args c.items-arg-items.result.now c.loop-arg.arg-index c.loop-arg.row c.index-operators-op.result c.items.result.now
    c.requires.operators c.in-Op.is c.items-arg-items.ensures c.requires.fits c.loop-arg-test.false c.loop-arg.auto.arg-index-end c.loop-arg.invariant.row c.loop-arg.invariant.below c.items.ensures).2
