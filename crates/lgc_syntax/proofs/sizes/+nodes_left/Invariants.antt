-- The nodes of the formulas so far are counted off.
use Rattle.std.proofs.Common.{◌≡◌, ◌+◌, take}
use Rattle.std.specs.List.{sum_by}
use Rattle.lgc_syntax.specs.Sizes.{nodes}
use Rattle.lgc_syntax.proofs.sizes.+nodes_left.Given as goal

abbrev pub invariant-nodes_left_by_all-loop-formula : goal.invariant-nodes_left_by_all-loop-formula
invariant-nodes_left_by_all-loop-formula l = l.left + sum_by nodes (take l.formula-index l.formulas) ≡ l.many
