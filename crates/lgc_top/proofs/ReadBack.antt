-- What `prove` prints is accepted by `check`, where it isn't longer than what is read.
use Rattle.std.proofs.Common.{◌≡◌, ℕ, ◌≤◌, Bool, List, length, Result, Ok, sym, subst, ◌∙◌, inl, inr, refl}
use Rattle.lgc_values.specs.Logic.{Logic}
use Rattle.lgc_syntax.specs.declared.fault.InputFault.{InputFault}
use Rattle.lgc_report.specs.declared.report.Report.{Report}
use Rattle.lgc_report.specs.Reports.{plain_report}
use Rattle.lgc_report.specs.Valid.{IsValid}
use Rattle.lgc_report_reader.specs.declared.report.TheConstants.{LONGEST_REPORT}
use Rattle.lgc_report_reader.proofs.ReportFiles.{report_once, report_complete}
use Rattle.lgc_prove.proofs.ReadBack.{answer_text_valid}
use Rattle.lgc_top.specs.declared.status.Status.{Status}
use Rattle.lgc_top.specs.declared.status.Status.TheVariants.{Done, Rejected}
use Rattle.lgc_top.specs.Prove.{IsReportOn}
use Rattle.lgc_top.specs.Check.{ReportGiven}
use Rattle.lgc_top.specs.Means.{GivenMeans}

-- what the printed bytes give is a valid report, so as the second file of `check` they mean Done
pub printed_is_accepted : (logic : Logic) (all_proved : Bool) (queries text : List ℕ) → IsReportOn logic all_proved queries text → length text ≤ LONGEST_REPORT → (told : Result (Report logic.size) InputFault) (status : Status) → ReportGiven logic text told
    → GivenMeans (λ report. IsValid logic (plain_report report)) Rejected told status → status ≡ Done
printed_is_accepted logic all_proved queries text printed short told status gives means =
    let back = answer_text_valid logic.size logic printed.queries all_proved text refl printed.answers short in
    let same : told ≡ Ok back.read = sym (report_once logic.size logic text told gives) ∙ report_complete logic.size logic text back.read back.given in
    by (subst (λ t. GivenMeans (λ report. IsValid logic (plain_report report)) Rejected t status) same means) where
      by : GivenMeans (λ report. IsValid logic (plain_report report)) Rejected (Ok (answer_text_valid logic.size logic printed.queries all_proved text refl printed.answers short).read) status → status ≡ Done
      by (inl passes) = passes.1
      by (inr fails) = absurd (fails.0 (answer_text_valid logic.size logic printed.queries all_proved text refl printed.answers short).valid)
