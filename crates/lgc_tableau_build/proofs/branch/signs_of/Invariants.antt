-- The values that the pairs so far give.
use Rattle.std.proofs.Common.{◌≡◌, length, take}
use Rattle.lgc_tableau_build.specs.Numbers.{AreSigns}
use Rattle.lgc_tableau_build.proofs.branch.signs_of.Given as goal

abbrev pub invariant-loop-pair : goal.invariant-loop-pair
invariant-loop-pair g l = record {
  count : length l.signs.items ≡ l.count;
  signs : AreSigns g.row.N (take l.pair-index l.branch) l.signs.items;
}
