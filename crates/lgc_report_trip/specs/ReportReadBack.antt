-- What it means that the text of a report is read back as the same.
use Rattle.std.specs.Prelude.{◌≤◌, ℕ, List, length, Ok}
use Rattle.lgc_values.specs.Logic.{Logic}
use Rattle.lgc_report.specs.declared.report.Report.{Report}
use Rattle.lgc_report_reader.specs.declared.report.TheConstants.{LONGEST_REPORT}
use Rattle.lgc_report_reader.specs.ReportFile.{ReportGives, IsReportOf}

-- Where the bytes aren't too many they are those of this report, and reading gives it.
abbrev pub IsReadAsReport : (n : ℕ) → Logic → List ℕ → Report n → Type 0
IsReadAsReport n logic bytes report = length bytes ≤ LONGEST_REPORT → IsReportOf n logic bytes report × ReportGives n logic bytes (Ok report)
