-- The marks of the lines so far are right.
use Rattle.std.proofs.Common.{◌≡◌, length}
use Rattle.lgc_check.proofs.MarkLaws.{AreMarksTo}
use Rattle.lgc_check.proofs.pending.pending_marks.Given as goal

abbrev pub invariant-loop-line : goal.invariant-loop-line
invariant-loop-line g l = record {
  many : length l.marks.items ≡ l.line-index;
  right : AreMarksTo l.lines l.marks.items l.line-index;
}
