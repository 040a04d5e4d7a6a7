use Rattle.std.proofs.Common.{◌≢◌, length, ◌∙◌, arith}
use Rattle.lgc_print.specs.FormulaText.{text_within}
use Rattle.lgc_print.proofs.FormulaTextLaws.{brackets_closed}
use Rattle.lgc_print.proofs.formulas.+put_formula.Goals as goal

pub put_formulas-returns-in_ok-push-2 : goal.put_formulas-returns-in_ok-push-2
put_formulas-returns-in_ok-push-2 g t c =
    let some : length c.args.args.now ≢ 0 = λ none. let e = rw none at c.is_empty.ensures in let d = c.if-not-is_empty.true in cc in
    c.in_ok-push-2.ensures.items ∙ brackets_closed (λ f. text_within c.args.m.now f c.args.around) c.args.args.now c.loop-arg.arg-index c.loop-arg.sign c.args.into.now.items c.loop-arg.into.items some (omega (arith, c.loop-arg.auto.arg-index-end, c.loop-arg-test.false)) c.loop-arg.invariant.put
