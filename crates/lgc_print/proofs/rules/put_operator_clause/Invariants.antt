use Rattle.std.proofs.Common.{◌≡◌, ◌++◌, take}
use Rattle.std.specs.Prelude.{codes}
use Rattle.lgc_print.specs.Text.{joined, literals_from}
use Rattle.lgc_print.proofs.TextLaws.{between}
use Rattle.lgc_print.proofs.rules.put_operator_clause.Given as goal

abbrev pub invariant-loop-j : goal.invariant-loop-j
invariant-loop-j g l = record {
  so_far : l.into.items ≡ l.initial.into.items ++ joined (codes ", ") (literals_from l.names 1 (take l.j l.sets));
  next : l.separator ≡ between (codes ", ") (literals_from l.names 1 (take l.j l.sets));
}
