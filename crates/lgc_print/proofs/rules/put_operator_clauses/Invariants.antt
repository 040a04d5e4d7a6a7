use Rattle.std.proofs.Common.{◌≡◌, ◌++◌, take}
use Rattle.std.specs.Prelude.{codes, map}
use Rattle.lgc_print.specs.Text.{joined, operator_clause_text}
use Rattle.lgc_print.proofs.TextLaws.{between}
use Rattle.lgc_print.proofs.rules.put_operator_clauses.Given as goal

abbrev pub invariant-loop-clause : goal.invariant-loop-clause
invariant-loop-clause g l = record {
  so_far : l.into.items ≡ l.initial.into.items ++ joined (codes "; ") (map (operator_clause_text l.names) (take l.clause-index l.clauses));
  next : l.separator ≡ between (codes "; ") (map (operator_clause_text l.names) (take l.clause-index l.clauses));
}
