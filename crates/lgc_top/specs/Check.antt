-- Reports that are read, and the verdicts on them.
use Rattle.std.specs.Prelude.{ℕ, Bool, List, Result, Ok, Err}
use Rattle.lgc_values.specs.Logic.{Logic}
use Rattle.lgc_syntax.specs.declared.fault.InputFault.{InputFault}
use Rattle.lgc_syntax.specs.declared.fault.InputFault.TheVariants.{Fault, Memory}
use Rattle.lgc_report.specs.declared.report.Report.{Report}
use Rattle.lgc_report.specs.Reports.{plain_report}
use Rattle.lgc_report_reader.specs.ReportFile.{ReportGives}
use Rattle.lgc_soundness.specs.Soundness.{IsSound}
use Rattle.lgc_check.specs.declared.text.Told.{Told}
use Rattle.lgc_check.specs.VerdictText.{IsTold}

-- what the bytes of a report give for a logic: the report, or its first fault
abbrev pub ReportGiven : (logic : Logic) → List ℕ → Result (Report logic.size) InputFault → Type 0
ReportGiven logic bytes told = ReportGives logic.size logic bytes told

-- The bytes are those of a report, and the line tells the verdict on it. `accepted` tells whether the report is valid.
pub record IsVerdictOn (logic : Logic) (accepted : Bool) (bytes line : List ℕ) : Type 0 where
  pub report : Report logic.size
  pub given : ReportGiven logic bytes (Ok report)
  pub told : IsTold logic (plain_report report) accepted line

-- The bytes are those of a report, which is sound: each of its lines that doesn't rest on a pending one is true in all finite structures
-- of the logic, whatever its free variables stand for, and so is each claim.
pub record IsSoundOn (logic : Logic) (bytes : List ℕ) : Type 0 where
  pub report : Report logic.size
  pub given : ReportGiven logic bytes (Ok report)
  pub sound : IsSound logic (plain_report report)

-- the line that tells the verdict on a report, and whether the report is accepted; or its first fault
abbrev pub ChecksBytes : Logic → List ℕ → Result Told InputFault → Type 0
ChecksBytes logic bytes (Ok told) = IsVerdictOn logic told.accepted bytes told.line.items
ChecksBytes logic bytes (Err Memory) = Unit {0}
ChecksBytes logic bytes (Err (Fault number offset)) = ReportGiven logic bytes (Err (Fault number offset))
