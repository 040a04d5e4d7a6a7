-- What a report's bytes give is what reading them tells, and the one thing that they give.
use Rattle.std.proofs.Common.{◌≡◌, ◌≤◌, ℕ, List, [], ◌∷◌, length, Result, Ok, Err, IfOk, refl, sym, subst, inl, arith}
use Rattle.std.specs.List.{AllByRecursion}
use Rattle.lgc_grammar.specs.Reading.{whole}
use Rattle.lgc_grammar.proofs.Readers.{whole_answers}
use Rattle.lgc_grammar.proofs.Exact.{whole_exact}
use Rattle.lgc_lexer.specs.declared.token.Token.{Token}
use Rattle.lgc_lexer.specs.Tokens.{tokens_of}
use Rattle.lgc_values.specs.Logic.{Logic, IsLogic}
use Rattle.lgc_tokens.proofs.Places.{few_tokens}
use Rattle.lgc_syntax.specs.declared.fault.InputFault.{InputFault}
use Rattle.lgc_inputs.specs.Faults.{place_in}
use Rattle.lgc_inputs.specs.Told.{Holds, IfFault, IsTree, Tells, place_of_first}
use Rattle.lgc_inputs.proofs.Texts.{text_once, text_answer, text_complete, text_is, text_of, text_faults}
use Rattle.lgc_formulas.specs.Setting.{Setting}
use Rattle.lgc_formulas.specs.FormulaTexts.{text_setting}
use Rattle.lgc_formulas.proofs.FormulasKept.{AreKnown, named_known}
use Rattle.lgc_formula_trip.proofs.WordTokens.{IsFormedIn, tokens_formed, named_formed}
use Rattle.lgc_report.specs.declared.report.Report.{Report}
use Rattle.lgc_report.specs.Reports.{plain_report}
use Rattle.lgc_report.specs.Writable.{IsWritableReport}
use Rattle.lgc_report_reader.specs.declared.report.TheConstants.{LONGEST_REPORT}
use Rattle.lgc_report_reader.specs.Reported.{reported_all, reported_place}
use Rattle.lgc_report_reader.specs.ReportGrammar.{ReportHere}
use Rattle.lgc_report_reader.specs.PlainReports.{PlainReportHere}
use Rattle.lgc_report_reader.specs.ReportReading.{report_at}
use Rattle.lgc_report_reader.specs.ReportFile.{ReportGives, IsReportOf, IsReportFault}
use Rattle.lgc_report_reader.specs.FileReading.{report_read}
use Rattle.lgc_report_reader.proofs.ReportReads.{report_reads}
use Rattle.lgc_report_reader.proofs.ReportFaults.{report_only}
use Rattle.lgc_report_reader.proofs.ReportedTokens.{length-reported, named_reported}
use Rattle.lgc_report_reader.proofs.ReportKept.{Fine, report_kept}

-- the place of the first token
pub reported_first : (s : Setting) (bytes : List ℕ) (end : ℕ) (tokens : List Token) → place_in reported_place end (reported_all s bytes tokens) ≡ place_of_first end tokens
reported_first s bytes end [] = refl
reported_first s bytes end (t ∷ tokens) = refl

-- what is used of the tokens of a report
fine_tokens : (logic : Logic) (bytes : List ℕ) (tokens : List Token) → length bytes ≤ LONGEST_REPORT → tokens_of bytes ≡ Ok tokens → Fine logic (reported_all (text_setting logic) bytes tokens)
fine_tokens logic bytes tokens short lexed = record {
  known = subst (AreKnown logic) (sym (named_reported (text_setting logic) bytes tokens)) (named_known logic bytes tokens);
  formed = subst (AllByRecursion (IsFormedIn logic)) (sym (named_reported (text_setting logic) bytes tokens)) (named_formed logic bytes tokens (tokens_formed bytes tokens lexed));
  few = omega (arith, length-reported (text_setting logic) bytes tokens, few_tokens bytes tokens lexed);
}

module _ (n : ℕ) (logic : Logic) (bytes : List ℕ) where
  -- what the bytes give is what reading them tells, so it is one
  pub report_once : (told : Result (Report n) InputFault) → ReportGives n logic bytes told → report_read n logic bytes ≡ told
  report_once = text_once reported_place (reported_all (text_setting logic) bytes) (ReportHere n (text_setting logic)) (PlainReportHere (text_setting logic)) (whole (report_at n (text_setting logic))) (whole_answers (report_reads n (text_setting logic))) (whole_exact (report_reads n (text_setting logic))) LONGEST_REPORT bytes

  pub report_answer : (result : Result (Report n) InputFault) → Tells (λ report. report) result (report_read n logic bytes) → Holds (ReportGives n logic bytes) result
  report_answer = text_answer reported_place (reported_all (text_setting logic) bytes) (ReportHere n (text_setting logic)) (PlainReportHere (text_setting logic)) (whole (report_at n (text_setting logic))) (whole_answers (report_reads n (text_setting logic))) (whole_exact (report_reads n (text_setting logic))) LONGEST_REPORT bytes

  pub report_is : (report : Report n) (result : Result (Report n) InputFault) → IsReportOf n logic bytes report → Tells (λ report. report) result (report_read n logic bytes) → IsTree (λ report. report) result report
  report_is = text_is reported_place (reported_all (text_setting logic) bytes) (ReportHere n (text_setting logic)) (PlainReportHere (text_setting logic)) (whole (report_at n (text_setting logic))) (whole_answers (report_reads n (text_setting logic))) (whole_exact (report_reads n (text_setting logic))) LONGEST_REPORT bytes

  pub report_complete : (report : Report n) → IsReportOf n logic bytes report → report_read n logic bytes ≡ Ok report
  report_complete = text_complete reported_place (reported_all (text_setting logic) bytes) (ReportHere n (text_setting logic)) (PlainReportHere (text_setting logic)) (whole (report_at n (text_setting logic))) (whole_answers (report_reads n (text_setting logic))) (whole_exact (report_reads n (text_setting logic))) LONGEST_REPORT bytes

  pub report_text : (report : Report n) → ReportGives n logic bytes (Ok report) → IsReportOf n logic bytes report
  report_text = text_of reported_place (reported_all (text_setting logic) bytes) (ReportHere n (text_setting logic)) (PlainReportHere (text_setting logic)) (whole (report_at n (text_setting logic))) (whole_answers (report_reads n (text_setting logic))) (whole_exact (report_reads n (text_setting logic))) LONGEST_REPORT bytes

  pub report_faults : (result : Result (Report n) InputFault) → Holds (ReportGives n logic bytes) result → IfFault result IsReportFault
  report_faults = text_faults reported_place (reported_all (text_setting logic) bytes) (ReportHere n (text_setting logic)) (PlainReportHere (text_setting logic)) (whole (report_at n (text_setting logic))) (whole_answers (report_reads n (text_setting logic))) (whole_exact (report_reads n (text_setting logic))) LONGEST_REPORT bytes IsReportFault (report_only n logic) (λ _. inl (omega arith, omega arith)) (inl (omega arith, omega arith)) (inl (omega arith, omega arith)) (inl (omega arith, omega arith))

  -- the report is one for the logic, and can be written
  pub report_fits : IsLogic logic → length logic.names ≡ n → (result : Result (Report n) InputFault) → Tells (λ report. report) result (report_read n logic bytes) → IfOk result (λ report. IsWritableReport logic (plain_report report))
  report_fits is_logic named (Ok report) told =
      let text = report_text report (report_answer (Ok report) told) in
      report_kept n logic is_logic named report (reported_all (text_setting logic) bytes text.tokens) (fine_tokens logic bytes text.tokens text.short text.lexed) text.derived
  report_fits is_logic named (Err f) told = tt
