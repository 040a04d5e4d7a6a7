-- Those before are written, with separators between them.
use Rattle.std.proofs.Common.{◌≡◌, ◌++◌, take, map}
use Rattle.std.specs.Prelude.{codes}
use Rattle.lgc_print.specs.Text.{joined}
use Rattle.lgc_print.proofs.TextLaws.{between}
use Rattle.lgc_clause_text.specs.ClausesText.{clause_text}
use Rattle.lgc_clause_text.proofs.line.put_each.Given as goal

abbrev pub invariant-loop-clause : goal.invariant-loop-clause
invariant-loop-clause g l = record {
  so_far : l.into.items ≡ l.initial.into.items ++ joined (codes "; ") (map (clause_text l.m) (take l.clause-index l.clauses));
  next : l.separator ≡ between (codes "; ") (map (clause_text l.m) (take l.clause-index l.clauses));
}
