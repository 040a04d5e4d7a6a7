use Rattle.std.proofs.Common.{take}
use Rattle.std.specs.Prelude.{All}
use Rattle.lgc_round_trip.specs.RoundTrip.{IsSet}
use Rattle.lgc_round_trip.proofs.signs.see_quantifier_clauses.Given as goal

abbrev pub invariant-loop-clause : goal.invariant-loop-clause
invariant-loop-clause g l = All (λ sets. All (IsSet g.row.N) sets) (take l.clause-index l.clauses)
