use Rattle.std.proofs.Common.{◌≡◌, ◌++◌, take}
use Rattle.lgc_latex.specs.Latex.{literals_from}
use Rattle.lgc_latex.proofs.document.put_literals.Given as goal

abbrev pub invariant-loop-j : goal.invariant-loop-j
invariant-loop-j g l = l.into.items ≡ l.initial.into.items ++ literals_from l.names l.part 1 (take l.j l.sets)
