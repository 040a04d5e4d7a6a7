use Rattle.std.proofs.Common.{◌≡◌, ◌<◌, ◌+◌, ◌^◌, ◌++◌, map, drop}
use Rattle.lgc_syntax.specs.Sizes.{depth, greatest}
use Rattle.lgc_print.specs.FormulaText.{text_within}
use Rattle.lgc_print.proofs.FormulaTextLaws.{signed}
use Rattle.lgc_print.proofs.formulas.+put_formula.Given as goal

abbrev pub invariant-put_formulas-loop-arg : goal.invariant-put_formulas-loop-arg
invariant-put_formulas-loop-arg g l = record {
  put : l.into.items ++ signed l.sign (map (λ f. text_within l.m f l.around) (drop l.arg-index l.args)) ≡ l.fn.into.items ++ signed 40 (map (λ f. text_within l.m f l.around) l.args);
  deep : l.around + greatest (map depth (drop l.arg-index l.args)) < 2 ^ 32;
}
