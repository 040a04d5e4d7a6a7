use Rattle.std.proofs.Common.{sym, ap, not, ◌∙◌, map, filter_map, take, length, Ok, Err, Vec, Global, ◌++◌, ◌∷◌, []}
use Rattle.std.proofs.lemmas.List.{map-append}
use Rattle.std.proofs.lemmas.Result.{err_from_is_err_and}
use Rattle.lgc_spec.specs.declared.orderings.NamedOrder.{NamedOrder}
use Rattle.lgc_spec.specs.Words.{LiesIn, text_of}
use Rattle.lgc_spec.specs.KeptOrders.{IsKept, AreKept}
use Rattle.lgc_spec.specs.Orderings.{ordering_in, OrderingGives, OrderingsGive}
use Rattle.lgc_spec.specs.OrderTexts.{TextGives}
use Rattle.lgc_spec.proofs.KeptOrderLaws.{sizes_of_kept}
use Rattle.lgc_spec.proofs.OrderAnswers.{reads_fault}
use Rattle.lgc_spec.proofs.OrderingTurns.{statement_fails, duplicate_gives, new_gives, all_give_push, all_zip_push, filter_map_next, filter_map_passes, words_push}
use Rattle.lgc_spec.proofs.TakenNames.{among_taken, taken_push}
use Rattle.lgc_spec.proofs.orderings.orderings_given.Goals as goal
use Rattle.lgc_spec.proofs.orderings.orderings_given.Goals.{in-Some+in_ok-is_new+else-not-is_new+in_ok-order+in_ok-push, in_default}

pub returns-then-not-is_new-clause-orders : goal.returns-then-not-is_new-clause-orders
returns-then-not-is_new-clause-orders c =
    let xs = filter_map ordering_in (take c.loop-statement.statement-index c.args.statements.now) in
    let again = among_taken c.loop-statement.taken (map (λ o. text_of c.args.bytes.now o.0) xs) c.text_of.result (text_of c.args.bytes.now c.in-Some.name) c.in_ok-is_new.is_new c.loop-statement.invariant.taken c.text_of.ensures c.in_ok-is_new.ensures.added ∙ ap not c.if-not-is_new.true in
    rw c.fault_at.ensures
    (statement_fails (OrderingGives c.args.bytes.now c.args.names.now) ordering_in c.args.statements.now c.loop-statement.statement-index c.statement-item.result (c.in-Some.name, c.in-Some.text) c.loop-statement.invariant.told.0 _ c.loop-statement-test.true c.statement-item.is (sym c.in-Some.ensures) c.loop-statement.invariant.told.2
    (duplicate_gives c.args.bytes.now c.args.names.now xs c.in-Some.name c.in-Some.text again))

pub returns-in_err-order-clause-orders : goal.returns-in_err-order-clause-orders
returns-in_err-order-clause-orders c =
    let p = err_from_is_err_and c.from_residual-in_err-order.result c.from_residual-in_err-order.ensures.1 in
    let xs = filter_map ordering_in (take c.loop-statement.statement-index c.args.statements.now) in
    let new = among_taken c.loop-statement.taken (map (λ o. text_of c.args.bytes.now o.0) xs) c.text_of.result (text_of c.args.bytes.now c.in-Some.name) c.in_ok-is_new.is_new c.loop-statement.invariant.taken c.text_of.ensures c.in_ok-is_new.ensures.added ∙ ap not c.if-not-is_new.false in
    rw (p.1, p.2) (reads_fault {U = Vec NamedOrder Global} (IsKept c.args.bytes.now (length c.args.names.now)) (λ orders ordered. AreKept c.args.bytes.now (length c.args.names.now) orders.items ordered)
    (TextGives c.args.bytes.now c.args.names.now c.in-Some.name c.in-Some.text) (OrderingsGive c.args.bytes.now c.args.names.now c.args.statements.now) _
    (λ f h. statement_fails (OrderingGives c.args.bytes.now c.args.names.now) ordering_in c.args.statements.now c.loop-statement.statement-index c.statement-item.result (c.in-Some.name, c.in-Some.text) c.loop-statement.invariant.told.0 f c.loop-statement-test.true c.statement-item.is (sym c.in-Some.ensures) c.loop-statement.invariant.told.2
    (new_gives c.args.bytes.now c.args.names.now xs c.in-Some.name c.in-Some.text (Err f) new h))
    c.in_err-order.ensures.order)

pub loop-statement-preserved : goal.loop-statement-preserved
loop-statement-preserved c =
    elim c.match-ordering_in.branch [
      | in-Some+in_ok-is_new+else-not-is_new+in_ok-order+in_ok-push w ↦
          let kept = w.in_ok-order.ensures.order in
          let name = w.in_ok-order.ensures.name in
          let xs = filter_map ordering_in (take c.loop-statement.statement-index c.args.statements.now) in
          let texts = map (λ o. text_of c.args.bytes.now o.0) xs in
          let text = text_of c.args.bytes.now w.in-Some.name in
          let next = filter_map_next ordering_in c.args.statements.now c.loop-statement.statement-index c.statement-item.result (w.in-Some.name, w.in-Some.text) c.loop-statement-test.true c.statement-item.is (sym w.in-Some.ensures) in
          let push = ap (λ l. l.items) w.orders-is ∙ w.in_ok-push.ensures.items in
          let new = among_taken c.loop-statement.taken texts w.text_of.result text w.in_ok-is_new.is_new c.loop-statement.invariant.taken w.text_of.ensures w.in_ok-is_new.ensures.added ∙ ap not w.if-not-is_new.false in
          let gives = new_gives c.args.bytes.now c.args.names.now xs w.in-Some.name w.in-Some.text (Ok kept.0) new kept.2 in
          rw (push, w.taken-is, next) (record {
            told = (
              c.loop-statement.invariant.told.0 ++ kept.0 ∷ [],
              all_zip_push (IsKept c.args.bytes.now (length c.args.names.now)) c.loop-statement.orders.items c.loop-statement.invariant.told.0 w.in_ok-order.order kept.0 c.loop-statement.invariant.told.1 kept.1,
              all_give_push (OrderingGives c.args.bytes.now c.args.names.now) xs c.loop-statement.invariant.told.0 (w.in-Some.name, w.in-Some.text) kept.0 c.loop-statement.invariant.told.2 gives,
            );
            words = words_push (LiesIn (length c.args.bytes.now)) c.loop-statement.orders.items w.in_ok-order.order c.args.statements.now c.loop-statement.statement-index c.statement-item.result w.in-Some.name w.in-Some.text c.loop-statement-test.true c.statement-item.is c.requires.words w.in-Some.ensures c.loop-statement.invariant.words name;
            taken = rw (map-append (λ o. text_of c.args.bytes.now o.0) xs ((w.in-Some.name, w.in-Some.text) ∷ [])) (taken_push c.loop-statement.taken w.insert.new.self texts w.text_of.result text c.loop-statement.invariant.taken w.text_of.ensures w.in_ok-is_new.ensures.updates);
          })
      | in_default w ↦
          let next = filter_map_passes ordering_in c.args.statements.now c.loop-statement.statement-index c.statement-item.result c.loop-statement-test.true c.statement-item.is (sym w.in_default.ensures) in
          rw (w.orders-is, w.taken-is, next) c.loop-statement.invariant
    ]

pub returns-clause-sizes : goal.returns-clause-sizes
returns-clause-sizes c = sizes_of_kept c.args.bytes.now (length c.args.names.now) c.loop-statement.orders.items c.loop-statement.invariant.told.0 c.loop-statement.invariant.told.1
