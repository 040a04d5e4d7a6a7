-- It holds of each of the first ones, and so of all.
use Rattle.std.proofs.Common.{All, subst, arith}
use Rattle.std.proofs.lemmas.List.{take_all}
use Rattle.lgc_sequents.specs.declared.line.Cited.{Cited}
use Rattle.lgc_report_trip.specs.WellFormed.{IsLong}
use Rattle.lgc_round_trip.proofs.SetLaws.{all_more}
use Rattle.lgc_report_trip.proofs.facts.see_premises.Goals as goal

pub loop-cited-preserved : goal.loop-cited-preserved
loop-cited-preserved c = all_more (λ (x : Cited). IsLong x.line) c.args.premises.now c.loop-cited.cited-index c.cited-item.result (omega arith) (subst (λ (x : Cited). IsLong x.line) c.cited-item.is c.see_cited.ensures) c.loop-cited.invariant

pub returns : goal.returns
returns c = subst (All (λ (x : Cited). IsLong x.line)) (take_all c.loop-cited.cited-index c.args.premises.now (omega arith)) c.loop-cited.invariant
