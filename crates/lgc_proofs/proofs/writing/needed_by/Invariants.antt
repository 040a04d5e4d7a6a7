-- What the marked lemmas among the last ones cite is marked.
use Rattle.std.proofs.Common.{◌≡◌, ◌-◌, true, length}
use Rattle.lgc_proofs.specs.Writing.{is_marked, AreClosedFrom}
use Rattle.lgc_proofs.proofs.writing.needed_by.Given as goal

abbrev pub invariant-loop-done : goal.invariant-loop-done
invariant-loop-done g l = (length l.marks.items ≡ length l.lemmas) × (is_marked l.marks.items l.place ≡ true) × AreClosedFrom (length l.lemmas - l.done) l.lemmas l.marks.items
