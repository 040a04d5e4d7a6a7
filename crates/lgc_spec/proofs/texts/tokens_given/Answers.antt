use Rattle.std.proofs.Common.{arith}
use Rattle.lgc_spec.proofs.LexPlaces.{bad_offset, open_offset}
use Rattle.lgc_spec.proofs.texts.tokens_given.Goals as goal

pub overflow_add-start : goal.overflow_add-start
overflow_add-start c =
    let place = bad_offset c.args.text.now c.in-Err-BadByte.field-0 c.in-Err-BadByte.offset c.in-Err-BadByte.field-0-is c.in-Err-BadByte.ensures.fault in
    omega arith

pub overflow_add-start-in-Err-OpenQuote : goal.overflow_add-start-in-Err-OpenQuote
overflow_add-start-in-Err-OpenQuote c =
    let place = open_offset c.args.text.now c.in-Err-OpenQuote.field-0 c.in-Err-OpenQuote.offset c.in-Err-OpenQuote.field-0-is c.in-Err-OpenQuote.ensures.fault in
    omega arith
