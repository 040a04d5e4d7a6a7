-- It holds of each of the first ones, and so of all.
use Rattle.std.proofs.Common.{All, subst, arith}
use Rattle.std.proofs.lemmas.List.{take_all}
use Rattle.lgc_report.specs.declared.report.Claim.{Claim}
use Rattle.lgc_report.specs.Reports.{plain_claim}
use Rattle.lgc_report_trip.specs.WellFormed.{IsWellFormedClaim}
use Rattle.lgc_round_trip.proofs.SetLaws.{all_more}
use Rattle.lgc_report_trip.proofs.facts.see_claims.Goals as goal

pub loop-claim-preserved : goal.loop-claim-preserved
loop-claim-preserved g c = all_more (λ (x : Claim g.row.N). IsWellFormedClaim g.row.N (plain_claim x)) c.args.claims.now c.loop-claim.claim-index c.claim-item.result (omega arith) (subst (λ (x : Claim g.row.N). IsWellFormedClaim g.row.N (plain_claim x)) c.claim-item.is c.see_claim.ensures) c.loop-claim.invariant

pub returns : goal.returns
returns g c = subst (All (λ (x : Claim g.row.N). IsWellFormedClaim g.row.N (plain_claim x))) (take_all c.loop-claim.claim-index c.args.claims.now (omega arith)) c.loop-claim.invariant
