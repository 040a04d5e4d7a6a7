-- The rules at the positions so far.
use Rattle.std.proofs.Common.{take, map}
use Rattle.lgc_report.specs.Reports.{plain_numbered}
use Rattle.lgc_prove.specs.Uses.{AreNumberedFrom}
use Rattle.lgc_prove.proofs.by_use.numbered_from.Given as goal

abbrev pub invariant-loop-position : goal.invariant-loop-position
invariant-loop-position g l = AreNumberedFrom l.rules (take l.position-index l.uses) (map plain_numbered l.used)
