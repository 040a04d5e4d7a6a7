use Rattle.std.proofs.Common.{◌+◌, ◌*◌}
use Rattle.lgc_formulas.proofs.formula.+formula.Given as goal

abbrev pub decreases-formula : goal.decreases-formula
decreases-formula g l = 1024 * l.deep + 1

abbrev pub decreases-headed_formula : goal.decreases-headed_formula
decreases-headed_formula g l = 1024 * l.deep

abbrev pub decreases-behind_quantifier : goal.decreases-behind_quantifier
decreases-behind_quantifier g l = 1024 * l.deep + 2

abbrev pub decreases-more_operands : goal.decreases-more_operands
decreases-more_operands g l = 1024 * l.deep + 2 * l.k + 2

abbrev pub decreases-operands : goal.decreases-operands
decreases-operands g l = 1024 * l.deep + 2 * l.k + 3

abbrev pub decreases-behind_operator : goal.decreases-behind_operator
decreases-behind_operator g l = 1024 * l.deep + 2 * l.arity + 4
