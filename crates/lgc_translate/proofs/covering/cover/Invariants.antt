-- The book is right and has its earlier rules, and there are only so many rules.
use Rattle.std.proofs.Common.{◌≡◌, ◌-◌, ◌*◌, ◌^◌, length, take}
use Rattle.lgc_values.specs.declared.TheConstants.{MOST_SYMBOLS}
use Rattle.lgc_calculus.specs.RuleBook.{IsRightBook}
use Rattle.lgc_translate.proofs.covering.cover.Given as goal

abbrev pub invariant-loop-missing : goal.invariant-loop-missing
invariant-loop-missing g l = record {
  right : IsRightBook l.m l.book;
  kept : take (length l.initial.book) l.book ≡ l.initial.book;
}

abbrev pub decreases-loop-missing : goal.decreases-loop-missing
decreases-loop-missing g l = MOST_SYMBOLS * 2 ^ g.row.N - length l.book
