-- One more term is within.
use Rattle.std.proofs.Common.{rules, arith}
use Rattle.lgc_syntax.specs.Sizes.{term_depth}
use Rattle.lgc_syntax.proofs.SizeLaws.{greatest_within}
use Rattle.lgc_syntax.proofs.sizes.+is_term_within.Goals as goal

pub are_terms_within-loop-term-preserved : goal.are_terms_within-loop-term-preserved
are_terms_within-loop-term-preserved t c =
    greatest_within term_depth c.args.terms.now c.loop-term.term-index c.term-item.result c.args.deep (omega arith) c.term-item.is c.loop-term.invariant (c.is_term_within.ensures.0 (search rules))
