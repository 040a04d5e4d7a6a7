-- The formulas so far are within.
use Rattle.std.proofs.Common.{◌≤◌, map, take}
use Rattle.lgc_syntax.specs.Sizes.{greatest, depth}
use Rattle.lgc_syntax.proofs.sizes.+is_within.Given as goal

abbrev pub invariant-are_all_within-loop-formula : goal.invariant-are_all_within-loop-formula
invariant-are_all_within-loop-formula l = greatest (map depth (take l.formula-index l.formulas)) ≤ l.deep
