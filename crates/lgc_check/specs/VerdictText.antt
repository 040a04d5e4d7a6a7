-- Lines that tell verdicts on reports.
use Rattle.std.specs.Prelude.{◌≡◌, ◌↔◌, ℕ, Bool, List, [], ◌++◌, length, codes, IsTrue, Option, Some, None}
use Rattle.std.specs.Fmt.{decimal}
use Rattle.lgc_values.specs.Logic.{Logic}
use Rattle.lgc_sequents.specs.Lines.{at_position}
use Rattle.lgc_verify.specs.Verdicts.{row_text}
use Rattle.lgc_report.specs.Reports.{PlainNumbered, PlainReport}
use Rattle.lgc_report.specs.Valid.{IsValid}
use Rattle.lgc_soundness.specs.Soundness.{IsSound}
use Rattle.lgc_check.specs.declared.verdict.Cause.{Cause}
use Rattle.lgc_check.specs.declared.verdict.Cause.TheVariants as cause
use Rattle.lgc_check.specs.declared.verdict.Place.{Place}
use Rattle.lgc_check.specs.declared.verdict.Place.TheVariants as place
use Rattle.lgc_check.specs.declared.verdict.Verdict.{Verdict}
use Rattle.lgc_check.specs.declared.verdict.Verdict.TheVariants.{Accepted, Rejected}
use Rattle.lgc_check.specs.Verdicts.{IsVerdict}

-- `accepted: 1 rules, 2 lines, 1 claims` and a line feed
unfoldable pub counts_text : ℕ → ℕ → ℕ → List ℕ
counts_text rules lines claims = codes "accepted: " ++ decimal rules ++ codes " rules, " ++ decimal lines ++ codes " lines, " ++ decimal claims ++ codes " claims\n"

abbrev pub accepted_text : PlainReport → List ℕ
accepted_text report = counts_text (length report.rules) (length report.lines) (length report.claims)

abbrev pub place_text : Place → List ℕ
place_text place.Rule = codes "rule"
place_text place.Line = codes "line"
place_text place.Claim = codes "claim"

-- a row of a rule, as `(u)` or `{f,u}`
abbrev pub row_at : Logic → Option PlainNumbered → ℕ → List ℕ
row_at logic None row = []
row_at logic (Some numbered) row = row_text logic numbered.rule.head row

-- `C1 at (u)`, `C2` and so on to `C12`; the row is one of the rule at the position
abbrev pub cause_text : Logic → List PlainNumbered → ℕ → Cause → List ℕ
cause_text logic rules position (cause.Inexact row) = codes "C1 at " ++ row_at logic (at_position rules position) row
cause_text logic rules position cause.UnknownRule = codes "C2"
cause_text logic rules position cause.UnknownLine = codes "C3"
cause_text logic rules position cause.Premises = codes "C4"
cause_text logic rules position cause.Sign = codes "C5"
cause_text logic rules position cause.Foreign = codes "C6"
cause_text logic rules position cause.Eigenvariable = codes "C7"
cause_text logic rules position cause.Incomplete = codes "C8"
cause_text logic rules position cause.NotIncluded = codes "C9"
cause_text logic rules position cause.NotRefuted = codes "C10"
cause_text logic rules position cause.Misnumbered = codes "C11"
cause_text logic rules position cause.Pending = codes "C12"

-- `rejected: line 2 by C6` and a line feed
unfoldable pub rejected_text : Logic → List PlainNumbered → Place → ℕ → Cause → List ℕ
rejected_text logic rules place position cause = codes "rejected: " ++ place_text place ++ codes " " ++ decimal position ++ codes " by " ++ cause_text logic rules position cause ++ codes "\n"

abbrev pub verdict_text : Logic → PlainReport → Verdict → List ℕ
verdict_text logic report Accepted = accepted_text report
verdict_text logic report (Rejected place position cause) = rejected_text logic report.rules place position cause

-- The line tells the verdict on the report. It is accepted exactly if it is valid, and what it derives then holds in every finite structure.
pub record IsTold (logic : Logic) (report : PlainReport) (accepted : Bool) (line : List ℕ) : Type 0 where
  pub verdict : Verdict
  pub is : IsVerdict logic report verdict
  pub told : line ≡ verdict_text logic report verdict
  pub valid : IsTrue accepted ↔ IsValid logic report
  pub sound : IsTrue accepted → IsSound logic report
