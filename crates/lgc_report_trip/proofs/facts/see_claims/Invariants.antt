-- It holds of the claims so far.
use Rattle.std.proofs.Common.{take}
use Rattle.std.specs.Prelude.{All}
use Rattle.lgc_report.specs.Reports.{plain_claim}
use Rattle.lgc_report_trip.specs.WellFormed.{IsWellFormedClaim}
use Rattle.lgc_report_trip.proofs.facts.see_claims.Given as goal

abbrev pub invariant-loop-claim : goal.invariant-loop-claim
invariant-loop-claim g l = All (λ claim. IsWellFormedClaim g.row.N (plain_claim claim)) (take l.claim-index l.claims)
