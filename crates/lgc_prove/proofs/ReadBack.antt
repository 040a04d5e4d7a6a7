-- What is read back of the text of answers is a valid report that answers the queries, so that whoever checks it accepts it.
use Rattle.std.proofs.Common.{◌≡◌, ℕ, ◌≤◌, Bool, List, length, sym, subst}
use Rattle.lgc_values.specs.Logic.{Logic}
use Rattle.lgc_meaning.specs.declared.query.Query.{Query}
use Rattle.lgc_report.specs.declared.report.Report.{Report}
use Rattle.lgc_report.specs.Reports.{PlainReport, plain_report}
use Rattle.lgc_report.specs.Valid.{IsValid}
use Rattle.lgc_report_reader.specs.declared.report.TheConstants.{LONGEST_REPORT}
use Rattle.lgc_report_reader.specs.ReportFile.{IsReportOf}
use Rattle.lgc_prove.specs.Answers.{AnswersQueries}
use Rattle.lgc_prove.specs.AnswerText.{IsAnswerText}

-- The bytes are those of a valid report that answers queries.
pub record IsValidText (n : ℕ) (logic : Logic) (asked : List Query) (bytes : List ℕ) : Type 0 where
  pub read : Report n
  pub given : IsReportOf n logic bytes read
  pub valid : IsValid logic (plain_report read)
  pub answers : AnswersQueries logic asked (plain_report read)

pub answer_text_valid : (n : ℕ) (logic : Logic) (asked : List Query) (all_proved : Bool) (text : List ℕ) → logic.size ≡ n → IsAnswerText logic asked all_proved text → length text ≤ LONGEST_REPORT → IsValidText n logic asked text
answer_text_valid n logic asked all_proved text size is short =
    let k = is.read_back short in
    subst (λ (m : ℕ). IsValidText m logic asked text) size
    (record {
      read = k.read;
      given = k.given;
      valid = subst (λ (r : PlainReport). IsValid logic r) (sym k.same) is.answers.valid;
      answers = subst (λ (r : PlainReport). AnswersQueries logic asked r) (sym k.same) is.answers;
    })
