use Rattle.std.proofs.Common.{◌≡◌, ◌++◌, take}
use Rattle.std.specs.Prelude.{codes, map}
use Rattle.lgc_print.specs.Text.{joined, quantifier_clause_text}
use Rattle.lgc_print.proofs.TextLaws.{between}
use Rattle.lgc_print.proofs.rules.put_quantifier_clauses.Given as goal

abbrev pub invariant-loop-clause : goal.invariant-loop-clause
invariant-loop-clause g l = record {
  so_far : l.into.items ≡ l.initial.into.items ++ joined (codes "; ") (map (quantifier_clause_text l.names) (take l.clause-index l.clauses));
  next : l.separator ≡ between (codes "; ") (map (quantifier_clause_text l.names) (take l.clause-index l.clauses));
}
