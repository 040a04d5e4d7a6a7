-- The formulas so far are copied.
use Rattle.std.proofs.Common.{◌≡◌, take}
use Rattle.lgc_syntax.proofs.copy.+copy_formula.Given as goal

abbrev pub invariant-copy_formulas-loop-formula : goal.invariant-copy_formulas-loop-formula
invariant-copy_formulas-loop-formula l = l.copies ≡ take l.formula-index l.formulas
