-- It holds of the lines so far.
use Rattle.std.proofs.Common.{take}
use Rattle.std.specs.Prelude.{All}
use Rattle.lgc_report_trip.specs.WellFormed.{IsWellFormedLine}
use Rattle.lgc_report_trip.proofs.facts.see_lines.Given as goal

abbrev pub invariant-loop-line : goal.invariant-loop-line
invariant-loop-line g l = All (IsWellFormedLine g.row.N) (take l.line-index l.lines)
