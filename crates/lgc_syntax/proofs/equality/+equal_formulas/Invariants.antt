-- The formulas so far are equal.
use Rattle.std.proofs.Common.{◌≡◌, take}
use Rattle.lgc_syntax.proofs.equality.+equal_formulas.Given as goal

abbrev pub invariant-equal_formula_lists-loop-i : goal.invariant-equal_formula_lists-loop-i
invariant-equal_formula_lists-loop-i l = take l.i l.a ≡ take l.i l.b
