-- What is found of the claim.
use Rattle.std.proofs.Common.{sym, subst, ◌∙◌}
use Rattle.std.proofs.lemmas.Bool.Decides.{not_from_Decides}
use Rattle.lgc_report.specs.Reports.{plain_claim}
use Rattle.lgc_check.specs.Causes.{found_of_evidence}
use Rattle.lgc_check.specs.ClaimTests.{is_settled}
use Rattle.lgc_check.proofs.ClaimLaws.{settled-Decides, pending_found, nothing_found}
use Rattle.lgc_check.proofs.claims.claim_cause.Goals as goal

pub returns-then-not-is_settled : goal.returns-then-not-is_settled
returns-then-not-is_settled g c =
    let lines = c.args.lines.now in
    let marks = c.args.marks.now in
    let claim = plain_claim c.args.claim.now in
    let right = subst (found_of_evidence c.args.m.now lines claim) c.in_default.is c.in_ok-cause.ensures in
    let numbered = sym c.number_of.ensures ∙ sym c.from.ensures ∙ c.if-from-position.false in
    pending_found c.args.m.now lines c.args.position claim right numbered (not_from_Decides (is_settled marks claim) (settled-Decides lines marks c.requires.marks claim) (sym c.is_settled.ensures ∙ c.if-not-is_settled.true))

pub returns : goal.returns
returns g c =
    let lines = c.args.lines.now in
    let marks = c.args.marks.now in
    let claim = plain_claim c.args.claim.now in
    let right = subst (found_of_evidence c.args.m.now lines claim) c.in_default.is c.in_ok-cause.ensures in
    let numbered = sym c.number_of.ensures ∙ sym c.from.ensures ∙ c.if-from-position.false in
    nothing_found c.args.m.now lines c.args.position claim right numbered ((settled-Decides lines marks c.requires.marks claim).0 (sym c.is_settled.ensures ∙ c.if-not-is_settled.false))
