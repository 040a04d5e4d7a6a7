-- The report can be written, and its text answers the queries.
use Rattle.std.proofs.Common.{◌≡◌, ℕ, Bool, List, refl, sym, subst, ap, ◌∙◌, arith}
use Rattle.std.specs.Prelude.{◌↔◌, All, IsTrue, map}
use Rattle.std.specs.List.{list_all}
use Rattle.lgc_values.specs.Logic.{Logic}
use Rattle.lgc_report.specs.declared.report.Claim.{Claim}
use Rattle.lgc_report.specs.declared.report.Report.{Report}
use Rattle.lgc_report.specs.Reports.{PlainReport, plain_claim, plain_report}
use Rattle.lgc_report_reader.specs.ReportFile.{IsReportOf}
use Rattle.lgc_meaning.specs.Satisfied.{IsSatisfiedEverywhere}
use Rattle.lgc_prove.specs.Answers.{AnswersQueries}
use Rattle.lgc_prove.specs.AnswerText.{is_proved, IsReadAs}
use Rattle.lgc_prove.proofs.WritableLaws.{answers_writable, all_decided}
use Rattle.lgc_prove.proofs.answer_text.prove_queries.Goals as goal

pub text_of_report-requires : goal.text_of_report-requires
text_of_report-requires g c =
    let logic : Logic = c.args.m.now in
    let report : PlainReport = plain_report c.in_ok-report.report in
    (omega arith, (omega arith, answers_writable logic c.args.queries report c.operators-operators.ensures.logic.sized c.requires.asked c.in_ok-report.ensures))

-- what is read of reports for a logic of n truth values, where these are as many as those of the logic
read_as : (n : ℕ) (logic : Logic) (text : List ℕ) (report : Report n) → logic.size ≡ n → IsReportOf n logic text report → IsReadAs logic (plain_report report) text
read_as n logic text report same given =
    let (read, is, of) = subst (λ (k : ℕ). (r : Report k) × (plain_report r ≡ plain_report report) × IsReportOf k logic text r) (sym same) (report, refl, given) in
    record { read = read; same = is; given = of }

pub returns : goal.returns
returns g c =
    let logic : Logic = c.args.m.now in
    let report : PlainReport = plain_report c.in_ok-report.report in
    let answers : AnswersQueries logic c.args.queries report = c.in_ok-report.ensures in
    let read = c.are_proved-all_proved.ensures ∙ ap (λ (claims : List (Claim g.row.N)). list_all is_proved (map plain_claim claims)) c.items.ensures in
    record {
      report = report;
      answers = answers;
      writable = answers_writable logic c.args.queries report c.operators-operators.ensures.logic.sized c.requires.asked answers;
      decided = subst (λ (b : Bool). IsTrue b ↔ All (IsSatisfiedEverywhere logic) c.args.queries) (sym read) (all_decided logic c.args.queries report.claims answers.claims);
      printed = c.in_ok-text.ensures.text;
      read_back = λ short. read_as g.row.N logic c.in_ok-text.text.items c.in_ok-report.report c.operators-operators.ensures.size (c.in_ok-text.ensures.read_back short).0;
    }
