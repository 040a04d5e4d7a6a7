use Rattle.std.proofs.Common.{take}
use Rattle.std.specs.Prelude.{All}
use Rattle.lgc_round_trip.specs.RoundTrip.{IsSet}
use Rattle.lgc_round_trip.proofs.signs.see_sets.Given as goal

abbrev pub invariant-loop-set : goal.invariant-loop-set
invariant-loop-set g l = All (IsSet g.row.N) (take l.set-index l.sets)
