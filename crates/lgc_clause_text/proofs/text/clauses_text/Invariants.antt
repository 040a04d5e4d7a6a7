-- The lines so far are put, by a right book.
use Rattle.std.proofs.Common.{[], take}
use Rattle.lgc_calculus.specs.RuleBook.{IsRightBook}
use Rattle.lgc_clause_text.specs.Items.{items_of_queries}
use Rattle.lgc_clause_text.specs.Put.{ArePut}
use Rattle.lgc_clause_text.proofs.text.clauses_text.Given as goal

abbrev pub invariant-loop-place : goal.invariant-loop-place
invariant-loop-place g l = record {
  put : ArePut l.m l.book (items_of_queries l.m 1 (take l.place l.queries)) [] l.text.items;
  right : IsRightBook l.m l.book;
}
