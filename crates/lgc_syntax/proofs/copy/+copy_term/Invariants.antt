-- The terms so far are copied.
use Rattle.std.proofs.Common.{◌≡◌, take}
use Rattle.lgc_syntax.proofs.copy.+copy_term.Given as goal

abbrev pub invariant-copy_terms-loop-term : goal.invariant-copy_terms-loop-term
invariant-copy_terms-loop-term l = l.copies ≡ take l.term-index l.terms
