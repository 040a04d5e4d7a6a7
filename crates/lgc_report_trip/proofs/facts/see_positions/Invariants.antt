-- It holds of the positions so far.
use Rattle.std.proofs.Common.{take}
use Rattle.std.specs.Prelude.{All}
use Rattle.lgc_report_trip.specs.WellFormed.{IsLong}
use Rattle.lgc_report_trip.proofs.facts.see_positions.Given as goal

abbrev pub invariant-loop-position : goal.invariant-loop-position
invariant-loop-position l = All IsLong (take l.position-index l.positions)
