-- Those before are written.
use Rattle.std.proofs.Common.{◌≡◌, ◌++◌, take, map}
use Rattle.std.specs.List.{flat_map}
use Rattle.lgc_report.specs.Reports.{plain_claim}
use Rattle.lgc_report.specs.ReportText.{claim_text}
use Rattle.lgc_report.proofs.text.put_claims.Given as goal

abbrev pub invariant-loop-claim : goal.invariant-loop-claim
invariant-loop-claim g l = l.into.items ≡ l.initial.into.items ++ flat_map (claim_text l.m) (map plain_claim (take l.claim-index l.claims))
