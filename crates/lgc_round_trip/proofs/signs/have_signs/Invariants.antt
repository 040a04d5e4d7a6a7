use Rattle.std.proofs.Common.{take}
use Rattle.std.specs.Prelude.{All}
use Rattle.lgc_clauses.specs.Kinds.{plain_rule}
use Rattle.lgc_round_trip.specs.RoundTrip.{HasSets}
use Rattle.lgc_round_trip.proofs.signs.have_signs.Given as goal

abbrev pub invariant-loop-rule : goal.invariant-loop-rule
invariant-loop-rule g l = All (λ rule. HasSets g.row.N (plain_rule rule)) (take l.rule-index l.rules)
