-- What the bytes of a report give: the report, or its first fault.
use Rattle.std.specs.Prelude.{◌≡◌, ◌≤◌, ◌⊎◌, ℕ, List, Result}
use Rattle.lgc_values.specs.Logic.{Logic}
use Rattle.lgc_syntax.specs.declared.fault.InputFault.{InputFault}
use Rattle.lgc_syntax.specs.declared.fault.TheConstants.{FILE_TOO_LONG, BAD_ARGUMENT, TOO_MANY_GOALS}
use Rattle.lgc_inputs.specs.Texts.{TextGives, IsTextOf}
use Rattle.lgc_formulas.specs.FormulaTexts.{text_setting}
use Rattle.lgc_report.specs.declared.report.Report.{Report}
use Rattle.lgc_report_reader.specs.declared.report.TheConstants.{LONGEST_REPORT}
use Rattle.lgc_report_reader.specs.Reported.{reported_all, reported_place}
use Rattle.lgc_report_reader.specs.ReportGrammar.{ReportHere}
use Rattle.lgc_report_reader.specs.PlainReports.{PlainReportHere}

-- What the bytes of a report give: a fault of their length, or else of their tokens, or else of their grammar, and else the report. Quantifiers may
-- stand, and formulas have no numbers.
abbrev pub ReportGives : (n : ℕ) → Logic → List ℕ → Result (Report n) InputFault → Type 0
ReportGives n logic bytes told = TextGives reported_place (reported_all (text_setting logic) bytes) (ReportHere n (text_setting logic)) (PlainReportHere (text_setting logic)) LONGEST_REPORT bytes told

-- The bytes are those of this report.
abbrev pub IsReportOf : (n : ℕ) → Logic → List ℕ → Report n → Type 0
IsReportOf n logic bytes report = IsTextOf (reported_all (text_setting logic) bytes) (ReportHere n (text_setting logic)) LONGEST_REPORT bytes report

-- the numbers of the faults of a report: 1 to 11, and 14
abbrev pub IsReportFault : ℕ → Type 0
IsReportFault number = ((FILE_TOO_LONG ≤ number) × (number ≤ BAD_ARGUMENT)) ⊎ (number ≡ TOO_MANY_GOALS)
