use Rattle.std.proofs.Common.{◌<◌, length, refl, arith}
use Rattle.std.proofs.lemmas.Result.{err_from_is_err_and}
use Rattle.lgc_spec.specs.Words.{LiesIn}
use Rattle.lgc_spec.specs.KeptOrders.{AreKept}
use Rattle.lgc_spec.proofs.FoundWords.{logic_word}
use Rattle.lgc_spec.proofs.OperatorShapes.{operators_rows}
use Rattle.lgc_spec.proofs.ReadingSteps.{orders_fail, operators_fail, quantifiers_fail, logic_told}
use Rattle.lgc_spec.proofs.reading.logic_given.Goals as goal

pub returns-in_err-orders-clause-answer : goal.returns-in_err-orders-clause-answer
returns-in_err-orders-clause-answer c =
    let p = err_from_is_err_and c.from_residual-in_err-orders.result c.from_residual-in_err-orders.ensures.1 in
    rw (p.1, p.2) (orders_fail c.args.bytes.now c.args.statements.now c.in_ok-values.values c.items-names.result.now _ c.in_ok-values.ensures.values c.items-names.ensures _ c.in_err-orders.ensures.orders)

pub returns-in_err-operators-clause-answer : goal.returns-in_err-operators-clause-answer
returns-in_err-operators-clause-answer c =
    let p = err_from_is_err_and c.from_residual-in_err-operators.result c.from_residual-in_err-operators.ensures.1 in
    let o = c.in_ok-orders.ensures.orders in
    let kept : AreKept c.args.bytes.now (length c.items-names.result.now) c.deref.result.now o.0 = rw c.deref.ensures.value o.1 in
    rw (p.1, p.2) (operators_fail c.args.bytes.now c.args.statements.now c.in_ok-values.values c.items-names.result.now _ c.in_ok-values.ensures.values c.items-names.ensures o.0 o.2 _ (c.in_err-operators.ensures o.0 kept))

pub quantifiers_given-requires-clause-tables : goal.quantifiers_given-requires-clause-tables
quantifiers_given-requires-clause-tables c =
    let o = c.in_ok-orders.ensures.orders in
    let kept : AreKept c.args.bytes.now (length c.items-names.result.now) c.deref.result.now o.0 = rw c.deref.ensures.value o.1 in
    let some : 0 < length c.items-names.result.now = rw c.items-names.ensures (omega (arith, c.in_ok-values.ensures.some)) in
    rw c.items.ensures (operators_rows c.args.bytes.now c.items-names.result.now some o.0 c.args.statements.now c.in_ok-operators.operators (c.in_ok-operators.ensures o.0 kept))

pub returns-in_err-quantifiers-clause-answer : goal.returns-in_err-quantifiers-clause-answer
returns-in_err-quantifiers-clause-answer c =
    let p = err_from_is_err_and c.from_residual-in_err-quantifiers.result c.from_residual-in_err-quantifiers.ensures.1 in
    let o = c.in_ok-orders.ensures.orders in
    let kept : AreKept c.args.bytes.now (length c.items-names.result.now) c.deref.result.now o.0 = rw c.deref.ensures.value o.1 in
    let again : AreKept c.args.bytes.now (length c.items-names.result.now) c.deref-2.result.now o.0 = rw c.deref-2.ensures.value o.1 in
    rw (p.1, p.2) (quantifiers_fail c.args.bytes.now c.args.statements.now c.in_ok-values.values c.items-names.result.now _ c.in_ok-values.ensures.values c.items-names.ensures o.0 o.2 c.in_ok-operators.operators c.items.result.now (c.in_ok-operators.ensures o.0 kept) c.items.ensures _ (c.in_err-quantifiers.ensures o.0 again))

pub name_of-requires : goal.name_of-requires
name_of-requires c = logic_word (LiesIn (length c.args.bytes.now)) c.args.statements.now c.logic_name.result c.requires.words c.logic_name.ensures

pub returns-clause-answer : goal.returns-clause-answer
returns-clause-answer c =
    let o = c.in_ok-orders.ensures.orders in
    let kept : AreKept c.args.bytes.now (length c.items-names.result.now) c.deref.result.now o.0 = rw c.deref.ensures.value o.1 in
    let again : AreKept c.args.bytes.now (length c.items-names.result.now) c.deref-2.result.now o.0 = rw c.deref-2.ensures.value o.1 in
    logic_told c.args.bytes.now c.args.statements.now c.in_ok-values.values c.items-names.result.now _ c.in_ok-values.ensures.values c.items-names.ensures o.0 o.2 c.in_ok-operators.operators c.items.result.now (c.in_ok-operators.ensures o.0 kept) c.items.ensures c.in_ok-quantifiers.quantifiers c.in_ok-values.designated c.in_ok-name_of.field-0 (c.in_ok-quantifiers.ensures o.0 again) refl c.in_ok-values.ensures.below (rw c.logic_name.ensures at c.in_ok-name_of.ensures)
