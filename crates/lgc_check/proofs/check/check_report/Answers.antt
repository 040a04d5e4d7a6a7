-- The verdict, by what is found of each part.
use Rattle.std.proofs.Common.{List, map, refl, sym, subst, rules}
use Rattle.std.specs.Prelude.{Option, MatchOption}
use Rattle.std.specs.List.{All}
use Rattle.lgc_clauses.specs.Kinds.{plain_rule}
use Rattle.lgc_clauses.specs.Rules.{Fits}
use Rattle.lgc_clauses.specs.declared.rule.Numbered.{Numbered}
use Rattle.lgc_sequents.specs.Lines.{FitsLine}
use Rattle.lgc_report.specs.Reports.{plain_claim, plain_report, FitsClaim}
use Rattle.lgc_report.specs.Valid.{IsValid}
use Rattle.lgc_report.specs.declared.report.Claim.{Claim}
use Rattle.lgc_report.proofs.ReportLaws.{All-of_map, rules_fit}
use Rattle.lgc_soundness.proofs.Soundness.{valid_is_sound}
use Rattle.lgc_check.specs.declared.verdict.Fault.{Fault}
use Rattle.lgc_check.specs.declared.verdict.Place.TheVariants as place
use Rattle.lgc_check.specs.declared.verdict.Verdict.TheVariants.{Rejected}
use Rattle.lgc_check.specs.Causes.{found_of_claim}
use Rattle.lgc_check.specs.Marks.{AreMarks}
use Rattle.lgc_check.specs.Verdicts.{AreRight, IsFirstFault}
use Rattle.lgc_check.proofs.CheckLaws.{rules_right, rule_first, lines_right, line_first, sequents, claims_right, claim_first}
use Rattle.lgc_check.proofs.Validity.{valid_from, accepted_is_valid}
use Rattle.lgc_check.proofs.check.check_report.Given as given
use Rattle.lgc_check.proofs.check.check_report.Goals as goal

pub first_of_rules-requires : goal.first_of_rules-requires
first_of_rules-requires g c =
    let fit = rules_fit c.args.m.now c.args.report.now.rules c.requires.rules in
    (search rules, (search rules, subst (All (λ (numbered : Numbered g.row.N). Fits c.args.m.now (plain_rule numbered.rule))) (sym c.items.ensures) fit))

pub first_of_lines-requires : goal.first_of_lines-requires
first_of_lines-requires g c = (search rules, (search rules, (search rules, subst (All (FitsLine c.args.m.now)) (sym c.items-lines.ensures) c.requires.lines)))

pub first_of_claims-requires : goal.first_of_claims-requires
first_of_claims-requires g c =
    let fit = All-of_map (FitsClaim c.args.m.now) (plain_claim {size = g.row.N}) c.args.report.now.claims c.requires.claims in
    let marks = subst (AreMarks c.items-lines.result.now) (sym c.as_slice.ensures.value) c.in_ok-marks.ensures in
    (search rules, (search rules, (search rules, (subst (All (λ (claim : Claim g.row.N). FitsClaim c.args.m.now (plain_claim claim))) (sym c.items-claims.ensures) fit, marks))))

-- ---- a rule

pub returns-in-Some-clause-accepted : goal.returns-in-Some-clause-accepted
returns-in-Some-clause-accepted g c =
    let fault = c.in-Some.fault in
    let first = rule_first c.args.m.now c.args.report.now c.items.result.now c.items-lines.result.now c.items.ensures c.items-lines.ensures fault.position fault.cause c.in-Some.ensures in
    accepted_is_valid c.args.m.now (plain_report c.args.report.now) (Rejected place.Rule fault.position fault.cause) first

-- ---- a line

pub returns-in-Some-first_of_lines-clause-verdict : goal.returns-in-Some-first_of_lines-clause-verdict
returns-in-Some-first_of_lines-clause-verdict g c =
    let logic = c.args.m.now in
    let report = c.args.report.now in
    let fault = c.in-Some-first_of_lines.fault in (
      rules_right logic report c.items.result.now c.items-lines.result.now c.items.ensures c.items-lines.ensures c.in_default.ensures,
      line_first logic report c.items-2.result.now c.items-lines.result.now c.items-2.ensures c.items-lines.ensures c.operators-operators.ensures.size fault.position fault.cause c.in-Some-first_of_lines.ensures.found,
    )

pub returns-in-Some-first_of_lines-clause-accepted : goal.returns-in-Some-first_of_lines-clause-accepted
returns-in-Some-first_of_lines-clause-accepted g c =
    let fault = c.in-Some-first_of_lines.fault in
    accepted_is_valid c.args.m.now (plain_report c.args.report.now) (Rejected place.Line fault.position fault.cause) (returns-in-Some-first_of_lines-clause-verdict g c)

-- ---- a claim

pub returns-in-Some-2-clause-verdict : goal.returns-in-Some-2-clause-verdict
returns-in-Some-2-clause-verdict g c =
    let logic = c.args.m.now in
    let report = c.args.report.now in
    let lines = c.items-lines.result.now in
    let claims : List (Claim g.row.N) = c.items-claims.result.now in
    let Q : Option Fault → Type 0 = λ found. MatchOption found (AreRight (found_of_claim logic lines) (map plain_claim claims)) (λ fault. IsFirstFault (found_of_claim logic lines) (map plain_claim claims) fault.position fault.cause) in
    let fault = c.in-Some-2.fault in (
      rules_right logic report c.items.result.now lines c.items.ensures c.items-lines.ensures c.in_default.ensures,
      lines_right logic report c.items-2.result.now lines c.items-2.ensures c.items-lines.ensures c.operators-operators.ensures.size c.in_default-first_of_lines.ensures.found,
      claim_first logic report c.items.result.now lines c.items.ensures c.items-lines.ensures claims c.items-claims.ensures fault.position fault.cause (subst Q c.in-Some-2.is c.in_ok-fault.ensures),
    )

pub returns-in-Some-2-clause-accepted : goal.returns-in-Some-2-clause-accepted
returns-in-Some-2-clause-accepted g c =
    let fault = c.in-Some-2.fault in
    accepted_is_valid c.args.m.now (plain_report c.args.report.now) (Rejected place.Claim fault.position fault.cause) (returns-in-Some-2-clause-verdict g c)

-- ---- nothing

valid : (g : given.Over) (c : goal.After-drop-marks-2 g) → IsValid c.args.m.now (plain_report c.args.report.now)
valid g c =
    let logic = c.args.m.now in
    let report = c.args.report.now in
    let lines = c.items-lines.result.now in
    let claims : List (Claim g.row.N) = c.items-claims.result.now in
    let Q : Option Fault → Type 0 = λ found. MatchOption found (AreRight (found_of_claim logic lines) (map plain_claim claims)) (λ fault. IsFirstFault (found_of_claim logic lines) (map plain_claim claims) fault.position fault.cause) in
    valid_from logic (plain_report report) (rules_right logic report c.items.result.now lines c.items.ensures c.items-lines.ensures c.in_default.ensures)
    (lines_right logic report c.items-2.result.now lines c.items-2.ensures c.items-lines.ensures c.operators-operators.ensures.size c.in_default-first_of_lines.ensures.found)
    (claims_right logic report c.items.result.now lines c.items.ensures c.items-lines.ensures claims c.items-claims.ensures (subst Q c.in_default-2.is c.in_ok-fault.ensures))

pub returns-clause-verdict : goal.returns-clause-verdict
returns-clause-verdict g c = valid g c

pub returns-clause-accepted : goal.returns-clause-accepted
returns-clause-accepted g c = (λ accepted. valid g c, λ _. refl)

pub returns-clause-sound : goal.returns-clause-sound
returns-clause-sound g c = λ accepted.
    let lines = sequents c.args.m.now c.args.report.now c.items-2.result.now c.items-lines.result.now c.items-2.ensures c.items-lines.ensures c.operators-operators.ensures.size (c.in_default-first_of_lines.ensures.sequents refl) in
    valid_is_sound c.args.m.now c.operators-operators.ensures.logic (plain_report c.args.report.now) c.requires lines (valid g c)
