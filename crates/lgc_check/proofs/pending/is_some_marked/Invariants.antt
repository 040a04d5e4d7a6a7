-- None of the lines so far has a mark.
use Rattle.std.proofs.Common.{◌≡◌, drop}
use Rattle.std.specs.List.{list_any}
use Rattle.lgc_check.specs.Marks.{is_marked}
use Rattle.lgc_check.proofs.pending.is_some_marked.Given as goal

abbrev pub invariant-loop-position : goal.invariant-loop-position
invariant-loop-position l = list_any (is_marked l.marks) l.positions ≡ list_any (is_marked l.marks) (drop l.position-index l.positions)
