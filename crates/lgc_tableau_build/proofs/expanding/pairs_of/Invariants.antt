-- The pairs so far, and those that are left.
use Rattle.std.proofs.Common.{◌≡◌, ◌++◌, drop}
use Rattle.std.specs.List.{zip}
use Rattle.lgc_tableau_build.proofs.expanding.pairs_of.Given as goal

abbrev pub invariant-loop-i : goal.invariant-loop-i
invariant-loop-i g l = l.pairs ++ zip (drop l.i l.args) (drop l.i l.sets) ≡ zip l.args l.sets
