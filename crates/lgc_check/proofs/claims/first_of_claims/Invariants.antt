-- Nothing is found of the claims so far.
use Rattle.std.proofs.Common.{◌+◌, map}
use Rattle.lgc_report.specs.Reports.{plain_claim}
use Rattle.lgc_check.specs.Causes.{found_of_claim}
use Rattle.lgc_check.specs.Verdicts.{AreRightBefore}
use Rattle.lgc_check.proofs.claims.first_of_claims.Given as goal

abbrev pub invariant-loop-i : goal.invariant-loop-i
invariant-loop-i g l = AreRightBefore (found_of_claim l.m l.lines) (map plain_claim l.claims) (l.i + 1)
