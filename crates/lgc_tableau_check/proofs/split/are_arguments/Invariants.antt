-- The formulas before are those of the arguments before.
use Rattle.std.proofs.Common.{◌≡◌, map, take}
use Rattle.lgc_tableau_check.proofs.split.are_arguments.Given as goal

abbrev pub invariant-loop-i : goal.invariant-loop-i
invariant-loop-i g l = map (λ item. item.formula) (take l.i l.items) ≡ take l.i l.args
