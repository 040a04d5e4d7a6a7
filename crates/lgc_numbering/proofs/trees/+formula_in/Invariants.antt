-- The numbers of arguments fall, and how the loop copies the formulas.
use Rattle.std.proofs.Common.{◌≡◌, ◌+◌, ◌*◌, take, map}
use Rattle.lgc_numbering.specs.Numbering.{formula_at, formulas_of}
use Rattle.lgc_numbering.proofs.trees.+formula_in.Given as goal

abbrev pub decreases-formula_in : goal.decreases-formula_in
decreases-formula_in l = 2 * l.k + 1

abbrev pub decreases-formulas_in : goal.decreases-formulas_in
decreases-formulas_in l = 2 * l.most

abbrev pub invariant-formulas_in-loop-number : goal.invariant-formulas_in-loop-number
invariant-formulas_in-loop-number l = l.formulas ≡ map (formula_at (formulas_of l.nodes)) (take l.number-index l.numbers)
