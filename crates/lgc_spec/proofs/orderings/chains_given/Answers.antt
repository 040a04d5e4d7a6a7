use Rattle.std.proofs.Common.{arith, Ok, sym, ap, ◌∙◌, ◌≤◌, length}
use Rattle.lgc_spec.proofs.OrderPlaces.{offset_within}
use Rattle.lgc_spec.proofs.orderings.chains_given.Goals as goal

pub overflow_add-start : goal.overflow_add-start
overflow_add-start c =
    let within : c.in-Err-Unexpected.offset ≤ length c.args.text.now = offset_within c.args.start c.args.text.now _ c.in-Err-Unexpected.field-0 c.in-Err-Unexpected.offset (c.in_ok-tokens.ensures ∙ ap Ok (sym c.deref.ensures.value)) c.in-Err-Unexpected.field-0-is c.in-Err-Unexpected.ensures.answer in
    omega arith
