-- One more formula is within.
use Rattle.std.proofs.Common.{rules, arith}
use Rattle.lgc_syntax.specs.Sizes.{depth}
use Rattle.lgc_syntax.proofs.SizeLaws.{greatest_within}
use Rattle.lgc_syntax.proofs.sizes.+is_within.Goals as goal

pub are_all_within-loop-formula-preserved : goal.are_all_within-loop-formula-preserved
are_all_within-loop-formula-preserved t c =
    greatest_within depth c.args.formulas.now c.loop-formula.formula-index c.formula-item.result c.args.deep (omega arith) c.formula-item.is c.loop-formula.invariant (c.is_within.ensures.0 (search rules))
