-- The cases before are written, with the nodes below them.
use Rattle.std.proofs.Common.{◌≡◌, ◌++◌, take}
use Rattle.lgc_tableau_text.specs.Work.{cases_text}
use Rattle.lgc_tableau_text.proofs.text.+put_node.Given as goal

abbrev pub invariant-put_cases-loop-j : goal.invariant-put_cases-loop-j
invariant-put_cases-loop-j g l = l.into.items ≡ l.initial.into.items ++ cases_text l.m l.blanks 1 (take l.j l.cases)
