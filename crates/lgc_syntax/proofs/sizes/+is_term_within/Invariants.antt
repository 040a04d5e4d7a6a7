-- The terms so far are within.
use Rattle.std.proofs.Common.{◌≤◌, map, take}
use Rattle.lgc_syntax.specs.Sizes.{greatest, term_depth}
use Rattle.lgc_syntax.proofs.sizes.+is_term_within.Given as goal

abbrev pub invariant-are_terms_within-loop-term : goal.invariant-are_terms_within-loop-term
invariant-are_terms_within-loop-term l = greatest (map term_depth (take l.term-index l.terms)) ≤ l.deep
