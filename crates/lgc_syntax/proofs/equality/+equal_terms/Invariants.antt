-- The terms so far are equal.
use Rattle.std.proofs.Common.{◌≡◌, take}
use Rattle.lgc_syntax.proofs.equality.+equal_terms.Given as goal

abbrev pub invariant-equal_term_lists-loop-i : goal.invariant-equal_term_lists-loop-i
invariant-equal_term_lists-loop-i l = take l.i l.a ≡ take l.i l.b
