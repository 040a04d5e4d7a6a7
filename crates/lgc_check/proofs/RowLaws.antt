-- Where a cause tells a row, it is one of the rule at the position.
use Rattle.std.proofs.Common.{◌≡◌, Bool, true, ℕ, zero, suc, ◌<◌, ⊎_elim, List, length, map, get_or, refl, sym, ap, subst, ◌∙◌, arith}
use Rattle.std.specs.Prelude.{◌↔◌, ◌-◌, slice_get, Some}
use Rattle.std.proofs.lemmas.Bool.{both_ways}
use Rattle.std.proofs.lemmas.List.{length-map}
use Rattle.std.proofs.lemmas.Option.{slice_get_within}
use Rattle.lgc_values.specs.Logic.{Logic}
use Rattle.lgc_clauses.specs.declared.rule.Numbered.{Numbered}
use Rattle.lgc_meaning.specs.declared.query.Query.{Query}
use Rattle.lgc_sequents.specs.Lines.{PlainLine, at_position}
use Rattle.lgc_steps.specs.declared.fault.StepFault.{StepFault}
use Rattle.lgc_steps.specs.declared.fault.StepFault.TheVariants as fault
use Rattle.lgc_steps.specs.Findings.{Finding, nothing, asks, found_first}
use Rattle.lgc_steps.specs.StepFaults.{found_of_step}
use Rattle.lgc_report.specs.declared.report.Evidence.{Evidence}
use Rattle.lgc_report.specs.declared.report.Evidence.TheVariants.{Proved, Refuted, Unfinished}
use Rattle.lgc_report.specs.Reports.{PlainNumbered, plain_numbered, PlainClaim, answer, holds, number_of, PlainReport}
use Rattle.lgc_check.specs.declared.verdict.Cause.{Cause}
use Rattle.lgc_check.specs.declared.verdict.Cause.TheVariants.{Inexact, Misnumbered, Pending}
use Rattle.lgc_check.specs.declared.verdict.Place.{Place}
use Rattle.lgc_check.specs.declared.verdict.Place.TheVariants as place
use Rattle.lgc_check.specs.declared.verdict.Verdict.{Verdict}
use Rattle.lgc_check.specs.declared.verdict.Verdict.TheVariants.{Accepted, Rejected}
use Rattle.lgc_check.specs.Causes.{found_of_number, found_of_table, cause_of_step, before_position, found_of_answer, found_of_evidence, IsSettled}
use Rattle.lgc_check.specs.Verdicts.{rules_of, IsFirstOf}
use Rattle.lgc_check.specs.Rows.{HasRow, is_accepted}
use Rattle.lgc_check.proofs.Faults.{mapped_stands}

-- what is found has a property
record Tells {T : Type 0} (P : T → Type 0) (F : Finding T) : Type 0 where
  pub each : (found : T) → F (Some found) → P found

tells_nothing : {T : Type 0} {P : T → Type 0} → Tells P nothing
tells_nothing = record { each = λ found never. absurd never }

tells_asked : {T : Type 0} {P : T → Type 0} {Part : Type 0} {mark : T} {others : Finding T} → P mark → Tells P others → Tells P (asks Part mark others)
tells_asked {P = P} here later = record { each = λ found is. ⊎_elim (λ fails. subst P (sym fails.1) here) (λ behind. later.each found behind.1) is }

tells_first : {S T : Type 0} {P : T → Type 0} (F : Finding S) (told : S → T) (others : Finding T) → ((mark : S) → F (Some mark) → P (told mark)) → Tells P others → Tells P (found_first F told others)
tells_first {P = P} F told others here later = record { each = λ found is. ⊎_elim (λ first. subst P (sym first.2) (here first.0 first.1)) (λ behind. later.each found behind.1) is }

module _ (logic : Logic) (rules : List PlainNumbered) (position : ℕ) where
  abbrev Has : Cause → Type 0
  Has = HasRow logic rules position

  of_step : (step : StepFault) → Has (cause_of_step step)
  of_step fault.UnknownRule = tt
  of_step fault.NotEarlier = tt
  of_step fault.Premises = tt
  of_step fault.Sign = tt
  of_step fault.Foreign = tt
  of_step fault.Eigenvariable = tt
  of_step fault.Incomplete = tt

  of_answer : (lines : List PlainLine) (query : Query) (evidence : Evidence) → Tells Has (found_of_answer logic lines query evidence)
  of_answer lines query (Proved cited) = tells_asked tt (tells_asked tt tells_nothing)
  of_answer lines query (Refuted entries) = tells_asked tt tells_nothing
  of_answer lines query (Unfinished cited) = tells_asked tt (tells_asked tt tells_nothing)

  of_evidence : (lines : List PlainLine) (claim : PlainClaim) → Tells Has (found_of_evidence logic lines claim)
  of_evidence lines (answer number query evidence) = of_answer lines query evidence
  of_evidence lines (holds number sequent line) = tells_asked tt (tells_asked tt tells_nothing)

-- the cause of the first item that has one
pub has_row : (logic : Logic) (report : PlainReport) (place : Place) (position : ℕ) (cause : Cause) → IsFirstOf logic report place position cause → HasRow logic report.rules position cause
has_row logic report place.Rule position cause first =
    let P = Has logic report.rules position in
    (tells_first {P = P} (found_of_table logic first.item.rule) Inexact (found_of_number position first.item.number) (λ row differs. record { numbered = first.item; stands = first.stands; within = differs.within })
    (tells_asked tt tells_nothing)).each cause first.fault
has_row logic report place.Line position cause first =
    let P = Has logic report.rules position in
    let line = first.1.item in
    (tells_first {P = P} (found_of_step logic.size (rules_of report) (before_position report.lines position) line) cause_of_step (found_of_number position line.number) (λ step _. of_step logic report.rules position step)
    (tells_asked tt tells_nothing)).each cause first.1.fault
has_row logic report place.Claim position cause first =
    let P = Has logic report.rules position in
    let claim = first.2.item in
    (tells_first {P = P} (found_of_evidence logic report.lines claim) (λ told. told) (asks (number_of claim ≡ position) Misnumbered (asks (IsSettled report.lines claim) Pending nothing)) (of_evidence logic report.rules position report.lines claim).each
    (tells_asked tt (tells_asked tt tells_nothing))).each cause first.2.fault

-- ---- the rule at a position

pub numbered_there : {n : ℕ} (rules : List (Numbered n)) (position : ℕ) (numbered : Numbered n) (other : PlainNumbered) → numbered ≡ get_or rules (position - 1) numbered → at_position (map plain_numbered rules) position ≡ Some other → other ≡ plain_numbered numbered
numbered_there rules zero numbered other is stands = cc
numbered_there {n} rules (suc k) numbered other is stands =
    let place : suc k - 1 ≡ k = omega arith in
    let within : k < length rules = omega (arith, slice_get_within (map plain_numbered rules) k other stands, length-map rules (plain_numbered {size = n})) in
    let read : slice_get (map plain_numbered rules) k ≡ Some (plain_numbered numbered) = mapped_stands (plain_numbered {size = n}) rules k numbered within (is ∙ ap (λ i. get_or rules i numbered) place) in
    let both : Some other ≡ Some (plain_numbered numbered) = sym stands ∙ read in
    cc

-- ---- whether a report is accepted

module _ {V : Type 0} (accepted : Bool) where
  pub accepted_by : (verdict : Verdict) → accepted ≡ is_accepted verdict → verdict ≡ Accepted ↔ V → accepted ≡ true ↔ V
  accepted_by Accepted is told = (λ passes. told.0 refl, λ valid. is)
  accepted_by (Rejected place position cause) is told = (λ passes. absurd (both_ways accepted is passes), λ valid. absurd (let same : Rejected place position cause ≡ Accepted = told.1 valid in cc))

  pub sound_by : (verdict : Verdict) → accepted ≡ is_accepted verdict → (verdict ≡ Accepted → V) → accepted ≡ true → V
  sound_by Accepted is sound passes = sound refl
  sound_by (Rejected place position cause) is sound passes = absurd (both_ways accepted is passes)
