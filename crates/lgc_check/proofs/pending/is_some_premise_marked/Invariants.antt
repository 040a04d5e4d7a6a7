-- None of the lines so far has a mark.
use Rattle.std.proofs.Common.{◌≡◌, drop}
use Rattle.std.specs.List.{list_any}
use Rattle.lgc_check.specs.Marks.{is_marked}
use Rattle.lgc_check.proofs.pending.is_some_premise_marked.Given as goal

abbrev pub invariant-loop-cited : goal.invariant-loop-cited
invariant-loop-cited l = list_any (λ cited. is_marked l.marks cited.line) l.premises ≡ list_any (λ cited. is_marked l.marks cited.line) (drop l.cited-index l.premises)
