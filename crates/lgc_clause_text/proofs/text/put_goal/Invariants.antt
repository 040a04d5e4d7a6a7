-- The lines so far are put, by a right book that has kept its rules.
use Rattle.std.proofs.Common.{◌≡◌, length, take}
use Rattle.lgc_calculus.specs.RuleBook.{IsRightBook}
use Rattle.lgc_clause_text.specs.Items.{items_of_goal}
use Rattle.lgc_clause_text.specs.Put.{ArePut}
use Rattle.lgc_clause_text.proofs.text.put_goal.Given as goal

abbrev pub invariant-loop-place : goal.invariant-loop-place
invariant-loop-place g l = record {
  put : ArePut l.m l.book (items_of_goal l.m l.query l.goal 1 (take l.place l.items)) l.initial.into.items l.into.items;
  kept : take (length l.initial.book) l.book ≡ l.initial.book;
  right : IsRightBook l.m l.book;
}
