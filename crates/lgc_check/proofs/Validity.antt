-- A report is valid exactly where nothing is found of its items.
use Rattle.std.proofs.Common.{◌≡◌, ℕ, zero, suc, ◌+◌, List, [], ◌∷◌, length, map, take, get_or, refl, sym, ap, ◌∙◌, arith}
use Rattle.std.specs.Prelude.{slice_get, Some, None, ◌↔◌}
use Rattle.std.specs.List.{All, AllZip, range_with_len}
use Rattle.std.proofs.lemmas.List.{length-map}
use Rattle.std.proofs.lemmas.List.Elements.{All-nil, All-cons, All-head, All-tail}
use Rattle.std.proofs.lemmas.Option.{slice_get-get_or}
use Rattle.lgc_values.specs.Logic.{Logic}
use Rattle.lgc_clauses.specs.Rules.{PlainRule}
use Rattle.lgc_clauses.specs.Exactness.{IsExact}
use Rattle.lgc_meaning.specs.declared.query.Query.{Query}
use Rattle.lgc_goals.specs.Goals.{goals_of}
use Rattle.lgc_sequents.specs.Signed.{SignedFormula}
use Rattle.lgc_sequents.specs.Lines.{PlainLine, at_position, IsPosition}
use Rattle.lgc_sequents.proofs.StepLaws.{AllZip-weaker, steps_from, step-at}
use Rattle.lgc_sequents.proofs.RestLaws.{All-at_position}
use Rattle.lgc_steps.specs.Findings.{Finding}
use Rattle.lgc_steps.proofs.Findings.{IsApart, apart_nothing, apart_asked}
use Rattle.lgc_steps.proofs.Parts.{step_by_parts, apart_of_reason}
use Rattle.lgc_report.specs.declared.report.Evidence.{Evidence}
use Rattle.lgc_report.specs.declared.report.Evidence.TheVariants.{Proved, Refuted, Unfinished}
use Rattle.lgc_report.specs.Reports.{PlainNumbered, PlainClaim, answer, holds, number_of, PlainReport}
use Rattle.lgc_report.specs.Valid.{IsIncludedAt, IsEvidence, IsValidClaim, ArePositions, IsValid}
use Rattle.lgc_check.specs.declared.verdict.Cause.{Cause}
use Rattle.lgc_check.specs.declared.verdict.Place.{Place}
use Rattle.lgc_check.specs.declared.verdict.Place.TheVariants as place
use Rattle.lgc_check.specs.declared.verdict.Verdict.{Verdict}
use Rattle.lgc_check.specs.declared.verdict.Verdict.TheVariants.{Accepted, Rejected}
use Rattle.lgc_check.specs.Causes.{IsIncluded, before_position, found_of_table, found_of_rule, found_of_line, found_of_answer, found_of_evidence, IsSettledBy, IsSettled, found_of_claim}
use Rattle.lgc_check.specs.Verdicts.{AreRight, rules_of, AreRulesRight, AreLinesRight, IsFirstOf, IsVerdict}
use Rattle.lgc_check.proofs.Faults.{apart_first, first_or_none}
use Rattle.lgc_check.proofs.ClaimLaws.{apart_claim}

-- ---- nothing is found where something is

apart_table : (logic : Logic) (rule : PlainRule) → IsApart (found_of_table logic rule)
apart_table logic rule = record { apart = λ row first exact. first.differs (exact row first.within) }

apart_rule : (logic : Logic) (position : ℕ) (numbered : PlainNumbered) → IsApart (found_of_rule logic position numbered)
apart_rule logic position numbered = apart_first (apart_table logic numbered.rule) (apart_asked apart_nothing)

apart_line : (n : ℕ) (rules : List PlainRule) (lines : List PlainLine) (position : ℕ) (line : PlainLine) → IsApart (found_of_line n rules lines position line)
apart_line n rules lines position line = apart_first (apart_of_reason n rules (before_position lines position) line.sequent line.reason) (apart_asked apart_nothing)

-- ---- numbers

module _ {X : Type 0} (number : X → ℕ) where
  from_offset : (items : List X) (offset : ℕ) → ((k : ℕ) (item : X) → slice_get items k ≡ Some item → number item ≡ offset + k) → map number items ≡ range_with_len offset (length items)
  from_offset [] offset each = refl
  from_offset (x ∷ items) offset each =
      let first : number x ≡ offset = each zero x refl ∙ omega arith in
      let rest : map number items ≡ range_with_len (offset + 1) (length items) = from_offset items (offset + 1) (λ k item is. each (suc k) item is ∙ omega arith) in
      ap (λ n. n ∷ map number items) first ∙ ap (λ numbers. offset ∷ numbers) rest

  at_offset : (items : List X) (offset : ℕ) → map number items ≡ range_with_len offset (length items) → (k : ℕ) (item : X) → slice_get items k ≡ Some item → number item ≡ offset + k
  at_offset [] offset are k item is = cc
  at_offset (x ∷ items) offset are zero item is =
      let first : number x ≡ offset = cc in
      let same : x ≡ item = cc in
      ap number (sym same) ∙ first ∙ omega arith
  at_offset (x ∷ items) offset are (suc k) item is =
      let rest : map number items ≡ range_with_len (offset + 1) (length items) = cc in
      at_offset items (offset + 1) rest k item is ∙ omega arith

  -- the numbers are positions where each is that of its item
  are_positions : (items : List X) → ((position : ℕ) (item : X) → at_position items position ≡ Some item → number item ≡ position) → ArePositions (map number items)
  are_positions items each = from_offset items 1 (λ k item is. each (suc k) item is ∙ omega arith) ∙ ap (range_with_len 1) (sym (length-map items number))

  number_there : (items : List X) → ArePositions (map number items) → (position : ℕ) (item : X) → at_position items position ≡ Some item → number item ≡ position
  number_there items are zero item is = cc
  number_there items are (suc k) item is = at_offset items 1 (are ∙ ap (range_with_len 1) (length-map items number)) k item is ∙ omega arith

-- ---- claims

module _ (lines : List PlainLine) where
  cites_from : (cited : List ℕ) (sequents : List (List SignedFormula)) → All (IsPosition lines) cited → AllZip (IsIncluded lines) cited sequents → AllZip (IsIncludedAt lines) cited sequents
  cites_from [] [] stand each = tt
  cites_from [] (sequent ∷ sequents) stand each = absurd each
  cites_from (position ∷ cited) [] stand each = absurd each
  cites_from (position ∷ cited) (sequent ∷ sequents) stand each =
      (record { stands = All-head (IsPosition lines) position cited stand; included = each.0 }, cites_from cited sequents (All-tail (IsPosition lines) position cited stand) each.1)

  stand_from : (cited : List ℕ) (sequents : List (List SignedFormula)) → AllZip (IsIncludedAt lines) cited sequents → All (IsPosition lines) cited
  stand_from [] sequents each = All-nil (IsPosition lines)
  stand_from (position ∷ cited) [] each = absurd each
  stand_from (position ∷ cited) (sequent ∷ sequents) each = All-cons (IsPosition lines) position cited each.0.stands (stand_from cited sequents each.1)

  included_from : (cited : List ℕ) (sequents : List (List SignedFormula)) → AllZip (IsIncludedAt lines) cited sequents → AllZip (IsIncluded lines) cited sequents
  included_from cited sequents each = AllZip-weaker (IsIncludedAt lines) (IsIncluded lines) (λ position sequent is. is.included) cited sequents each

module _ (logic : Logic) (lines : List PlainLine) where
  evidence_from : (query : Query) (evidence : Evidence) → found_of_answer logic lines query evidence None → IsSettledBy lines evidence → IsEvidence logic lines query evidence
  evidence_from query (Proved cited) right settled = record { goals = cites_from lines cited (goals_of logic.size query) right.0 right.1.0; settled = settled }
  evidence_from query (Refuted entries) right settled = right.0
  evidence_from query (Unfinished cited) right settled = record { goals = cites_from lines cited (goals_of logic.size query) right.0 right.1.0; pending = settled }

  evidence_right : (query : Query) (evidence : Evidence) → IsEvidence logic lines query evidence → found_of_answer logic lines query evidence None × IsSettledBy lines evidence
  evidence_right query (Proved cited) is = ((stand_from lines cited (goals_of logic.size query) is.goals, (included_from lines cited (goals_of logic.size query) is.goals, tt)), is.settled)
  evidence_right query (Refuted entries) is = ((is, tt), tt)
  evidence_right query (Unfinished cited) is = ((stand_from lines cited (goals_of logic.size query) is.goals, (included_from lines cited (goals_of logic.size query) is.goals, tt)), is.pending)

  claim_from : (claim : PlainClaim) → found_of_evidence logic lines claim None → IsSettled lines claim → IsValidClaim logic lines claim
  claim_from (answer number query evidence) right settled = evidence_from query evidence right settled
  claim_from (holds number sequent line) right settled = record { included = record { stands = right.0; included = right.1.0 }; settled = settled }

  claim_right : (claim : PlainClaim) → IsValidClaim logic lines claim → found_of_evidence logic lines claim None × IsSettled lines claim
  claim_right (answer number query evidence) valid = evidence_right query evidence valid
  claim_right (holds number sequent line) valid = ((valid.included.stands, (valid.included.included, tt)), valid.settled)

-- ---- reports

module _ (logic : Logic) (report : PlainReport) where
  abbrev found_of_lines : ℕ → PlainLine → Finding Cause
  found_of_lines = found_of_line logic.size (rules_of report) report.lines

  -- where nothing is found, the report is valid
  pub valid_from : AreRulesRight logic report → AreLinesRight logic report → AreRight (found_of_claim logic report.lines) report.claims → IsValid logic report
  valid_from rules lines claims = record {
    rule_numbers = are_positions (λ (numbered : PlainNumbered). numbered.number) report.rules (λ position numbered is. (rules position numbered is).1.0);
    line_numbers = are_positions (λ (line : PlainLine). line.number) report.lines (λ position line is. (lines position line is).1.0);
    claim_numbers = are_positions number_of report.claims (λ position claim is. (claims position claim is).1.0);
    exact = λ i d lt. (rules (suc i) (get_or report.rules i d) (slice_get-get_or report.rules i d lt)).0;
    steps = steps_from logic.size (rules_of report) [] report.lines (λ at line is. (step_by_parts logic.size (rules_of report) (take at report.lines) line.sequent line.reason).0 (lines (suc at) line is).0);
    claims = λ i d lt.
        let claim = get_or report.claims i d in
        let right = claims (suc i) claim (slice_get-get_or report.claims i d lt) in
        claim_from logic report.lines claim right.0 right.1.1.0;
  }

  module _ (valid : IsValid logic report) where
    rules_right : AreRulesRight logic report
    rules_right position numbered is = (
      All-at_position (λ (numbered : PlainNumbered). IsExact logic numbered.rule) report.rules position numbered valid.exact is,
      (number_there (λ (numbered : PlainNumbered). numbered.number) report.rules valid.rule_numbers position numbered is, tt),
    )

    lines_right : AreLinesRight logic report
    lines_right zero line is = cc
    lines_right (suc k) line is = (
      (step_by_parts logic.size (rules_of report) (take k report.lines) line.sequent line.reason).1 (step-at logic.size (rules_of report) [] report.lines k line valid.steps is),
      (number_there (λ (line : PlainLine). line.number) report.lines valid.line_numbers (suc k) line is, tt),
    )

    claims_right : AreRight (found_of_claim logic report.lines) report.claims
    claims_right position claim is =
        let right = claim_right logic report.lines claim (All-at_position (IsValidClaim logic report.lines) report.claims position claim valid.claims is) in
        (right.0, (number_there number_of report.claims valid.claim_numbers position claim is, (right.1, tt)))

  -- of a valid report nothing is found
  not_first : IsValid logic report → (place : Place) (position : ℕ) (cause : Cause) → IsFirstOf logic report place position cause → ⊥
  not_first valid place.Rule position cause first = first_or_none (found_of_rule logic) report.rules (λ position numbered. apart_rule logic position numbered) position cause first (rules_right valid)
  not_first valid place.Line position cause first = first_or_none found_of_lines report.lines (λ position line. apart_line logic.size (rules_of report) report.lines position line) position cause first.1 (lines_right valid)
  not_first valid place.Claim position cause first = first_or_none (found_of_claim logic report.lines) report.claims (λ position claim. apart_claim logic report.lines position claim) position cause first.2 (claims_right valid)

  -- so it is valid exactly where it is accepted
  pub accepted_is_valid : (verdict : Verdict) → IsVerdict logic report verdict → verdict ≡ Accepted ↔ IsValid logic report
  accepted_is_valid Accepted is = (λ accepted. is, λ valid. refl)
  accepted_is_valid (Rejected place position cause) is = (λ accepted. absurd (let other : Rejected place position cause ≡ Accepted = accepted in cc), λ valid. absurd (not_first valid place position cause is))
