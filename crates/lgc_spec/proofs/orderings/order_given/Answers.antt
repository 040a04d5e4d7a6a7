use Rattle.std.proofs.Common.{arith, sym, ◌≤◌, ◌≡◌, ◌-◌, length, ap, ◌∙◌, Ok, Err}
use Rattle.std.specs.List.{flat_map}
use Rattle.std.proofs.lemmas.Result.{err_from_is_err_and}
use Rattle.lgc_orders.specs.Order.{IsOfLinks}
use Rattle.lgc_spec.specs.Words.{text_of, unknown_word}
use Rattle.lgc_spec.specs.KeptOrders.{IsKept}
use Rattle.lgc_spec.specs.Orderings.{Orders, links_of}
use Rattle.lgc_spec.specs.OrderTexts.{TextGives}
use Rattle.lgc_spec.proofs.OrderPlaces.{unknown_stands, length-text_of}
use Rattle.lgc_spec.proofs.OrderAnswers.{text_told, reads_fault}
use Rattle.lgc_spec.proofs.orderings.order_given.Goals as goal

pub overflow_add-word : goal.overflow_add-word
overflow_add-word c =
    let within : c.in-Some.unknown.at ≤ length c.text_of-text.result.now = unknown_stands (length c.text_of-text.result.now) c.text_of-text.result.now c.args.names.now c.in_ok-chains.chains c.in-Some.unknown c.in_ok-chains.ensures.words (c.in-Some.ensures ∙ ap (λ l. unknown_word c.text_of-text.result.now c.args.names.now (flat_map (flat_map (λ node. node)) l)) c.items.ensures) in
    let size : length c.text_of-text.result.now ≡ c.args.word.now.end - c.args.word.now.start = ap length c.text_of-text.ensures ∙ length-text_of c.args.bytes.now c.args.word.now c.requires.word in
    omega (arith, c.requires.word.0, c.requires.word.1)

pub returns-in_err-order-clause-order : goal.returns-in_err-order-clause-order
returns-in_err-order-clause-order c =
    let p = err_from_is_err_and c.from_residual-in_err-order.result c.from_residual-in_err-order.ensures.1 in
    rw (p.1, p.2) (reads_fault (λ order ordered. (ordered.name ≡ text_of c.args.bytes.now c.args.name.now) × IsOfLinks (length c.args.names.now) ordered.links order) (IsKept c.args.bytes.now (length c.args.names.now))
    (Orders c.args.names.now (text_of c.args.bytes.now c.args.name.now) c.args.word.now.at (links_of c.text_of-text.result.now c.args.names.now c.items-2.result.now))
    (TextGives c.args.bytes.now c.args.names.now c.args.name.now c.args.word.now) _
    (λ f h. text_told c.args.bytes.now c.args.names.now c.args.name.now c.args.word.now c.text_of-text.result.now c.in_ok-chains.chains c.items.result.now c.items-2.result.now (Err f) c.text_of-text.ensures c.in_ok-chains.ensures.chains c.items.ensures c.in_default.ensures c.items-2.ensures h)
    (c.in_err-order.ensures (text_of c.args.bytes.now c.args.name.now)))

pub returns-clause-order : goal.returns-clause-order
returns-clause-order c =
    let kept = c.in_ok-order.ensures (text_of c.args.bytes.now c.args.name.now) in
    (kept.0, record { named = sym kept.1.0; linked = kept.1.1 }, text_told c.args.bytes.now c.args.names.now c.args.name.now c.args.word.now c.text_of-text.result.now c.in_ok-chains.chains c.items.result.now c.items-2.result.now (Ok kept.0) c.text_of-text.ensures c.in_ok-chains.ensures.chains c.items.ensures c.in_default.ensures c.items-2.ensures kept.2)
