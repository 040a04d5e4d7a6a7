-- It holds of the cited lines so far.
use Rattle.std.proofs.Common.{take}
use Rattle.std.specs.Prelude.{All}
use Rattle.lgc_report_trip.specs.WellFormed.{IsLong}
use Rattle.lgc_report_trip.proofs.facts.see_premises.Given as goal

abbrev pub invariant-loop-cited : goal.invariant-loop-cited
invariant-loop-cited l = All (λ cited. IsLong cited.line) (take l.cited-index l.premises)
