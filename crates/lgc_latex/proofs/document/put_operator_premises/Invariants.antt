use Rattle.std.proofs.Common.{◌≡◌, ◌++◌, take}
use Rattle.std.specs.Prelude.{codes, map}
use Rattle.lgc_print.specs.Text.{joined}
use Rattle.lgc_print.proofs.TextLaws.{between}
use Rattle.lgc_latex.specs.Latex.{operator_premise_text}
use Rattle.lgc_latex.proofs.document.put_operator_premises.Given as goal

abbrev pub invariant-loop-clause : goal.invariant-loop-clause
invariant-loop-clause g l = record {
  so_far : l.into.items ≡ l.initial.into.items ++ joined (codes " \\qquad ") (map (operator_premise_text l.names) (take l.clause-index l.clauses));
  next : l.separator ≡ between (codes " \\qquad ") (map (operator_premise_text l.names) (take l.clause-index l.clauses));
}
