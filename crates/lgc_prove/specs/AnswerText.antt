-- The text of a report that answers queries.
use Rattle.std.specs.Prelude.{◌≡◌, ◌≤◌, ◌↔◌, ℕ, Bool, true, false, IsTrue, List, length, All}
use Rattle.lgc_values.specs.Logic.{Logic}
use Rattle.lgc_meaning.specs.declared.query.Query.{Query}
use Rattle.lgc_report.specs.declared.report.Evidence.TheVariants.{Proved, Refuted, Unfinished}
use Rattle.lgc_report.specs.declared.report.Report.{Report}
use Rattle.lgc_report.specs.Reports.{PlainClaim, answer, holds, PlainReport, plain_report}
use Rattle.lgc_report.specs.ReportText.{report_text}
use Rattle.lgc_report.specs.Writable.{IsWritableReport}
use Rattle.lgc_report_reader.specs.declared.report.TheConstants.{LONGEST_REPORT}
use Rattle.lgc_report_reader.specs.ReportFile.{IsReportOf}
use Rattle.lgc_meaning.specs.Satisfied.{IsSatisfiedEverywhere}
use Rattle.lgc_prove.specs.Answers.{AnswersQueries}

-- whether a claim says that a query is proved
abbrev pub is_proved : PlainClaim → Bool
is_proved (answer number query (Proved cited)) = true
is_proved (answer number query (Refuted entries)) = false
is_proved (answer number query (Unfinished cited)) = false
is_proved (holds number sequent line) = false

-- The bytes are those of a report, with the number of truth values in its type.
pub record IsReadAs (logic : Logic) (report : PlainReport) (bytes : List ℕ) : Type 0 where
  pub read : Report logic.size
  pub same : plain_report read ≡ report
  pub given : IsReportOf logic.size logic bytes read

-- A report answers queries and can be written, and this is its text, from which it is read back, unless it is longer than what is read.
-- `all_proved` tells whether every valuation satisfies every query.
pub record IsAnswerText (logic : Logic) (asked : List Query) (all_proved : Bool) (text : List ℕ) : Type 0 where
  pub report : PlainReport
  pub answers : AnswersQueries logic asked report
  pub writable : IsWritableReport logic report
  pub decided : IsTrue all_proved ↔ All (IsSatisfiedEverywhere logic) asked
  pub printed : text ≡ report_text logic report
  pub read_back : length text ≤ LONGEST_REPORT → IsReadAs logic report text
