-- The first lines have new numbers.
use Rattle.std.proofs.Common.{◌≡◌, ◌++◌, map, take, drop}
use Rattle.lgc_prove.specs.ByUse.{renumbered}
use Rattle.lgc_prove.specs.Uses.{number_in}
use Rattle.lgc_prove.proofs.by_use.renumber_lines.Given as goal

abbrev pub invariant-loop-i : goal.invariant-loop-i
invariant-loop-i g l = l.lines.items ≡ map (renumbered (number_in l.uses.keys)) (take l.i l.fn.lines) ++ drop l.i l.fn.lines
