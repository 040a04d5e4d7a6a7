-- From the rules and queries of a matrix to those of a logic.
use Rattle.std.proofs.Common.{◌≡◌, ◌<◌, ◌^◌, ℕ, List, Bool, Result, Ok, Err, length, refl, subst}
use Rattle.std.specs.Prelude.{◌↔◌, IsTrue, All, map}
use Rattle.lgc_values.specs.Logic.{Logic}
use Rattle.lgc_clauses.specs.declared.rule.Rule.{Rule}
use Rattle.lgc_clauses.specs.Kinds.{plain_rule}
use Rattle.lgc_syntax.specs.declared.fault.InputFault.{InputFault}
use Rattle.lgc_syntax.specs.declared.fault.InputFault.TheVariants.{Fault, Memory}
use Rattle.lgc_inputs.specs.Told.{Holds}
use Rattle.lgc_rules.specs.RuleFile.{FileGives}
use Rattle.lgc_verify.specs.Verdicts.{IsRight, IsText}
use Rattle.lgc_values.specs.Logic.{IsLogic}
use Rattle.lgc_meaning.specs.declared.query.Query.{Query}
use Rattle.lgc_queries.specs.QueryFile as queries
use Rattle.lgc_queries.specs.Limits.{IsFileQuery}
use Rattle.lgc_queries.proofs.QueryFiles.{file_of}
use Rattle.lgc_query_trip.proofs.ReadQueries.{read_queries_writable}
use Rattle.lgc_queries.specs.Asked.{IsAsked}
use Rattle.lgc_prove.specs.AnswerText.{IsAnswerText}
use Rattle.lgc_top.proofs.FewQueries.{few_queries}
use Rattle.lgc_report.specs.declared.report.Report.{Report}
use Rattle.lgc_report.specs.Reports.{plain_report}
use Rattle.lgc_report_reader.specs.ReportFile.{ReportGives}
use Rattle.lgc_check.specs.VerdictText.{IsTold}
use Rattle.lgc_top.specs.Check.{ReportGiven, IsVerdictOn, ChecksBytes}
use Rattle.lgc_top.specs.Prove.{QueriesGiven, QueriesRefused, IsReportOn}
use Rattle.lgc_top.specs.Clauses.{IsClausesOn}
use Rattle.lgc_top.specs.Tableaux.{IsTableauxOn}
use Rattle.lgc_clause_text.specs.ClausesText.{IsClausesText}
use Rattle.lgc_tableaux.specs.TableauxText.{IsTableauxText}
use Rattle.lgc_top.specs.Verify.{RulesGiven, IsVerdictText, JudgesBytes}

abbrev pub queries_failed : InputFault → Result (List Query) InputFault
queries_failed fault = Err fault

abbrev pub failed : (n : ℕ) → InputFault → Result (List (Rule n)) InputFault
failed n fault = Err fault

abbrev told_fault : (n number offset : ℕ) → Result (List (Rule n)) InputFault
told_fault n number offset = Err (Fault number offset)

module _ (n : ℕ) (m logic : Logic) (same : m ≡ logic) (size : m.size ≡ n) (bytes : List ℕ) where
  pub judged : (right : Bool) (text : List ℕ) (rules : List (Rule n)) → FileGives n m bytes (Ok rules) → IsTrue right ↔ All (IsRight m) (map plain_rule rules) → IsText m (map plain_rule rules) text → IsVerdictText logic right bytes text
  judged right text rules given decided printed =
      subst (λ (l : Logic). IsVerdictText l right bytes text) same
      (subst (λ (n : ℕ). (rules : List (Rule n)) → FileGives n m bytes (Ok rules) → IsTrue right ↔ All (IsRight m) (map plain_rule rules) → IsText m (map plain_rule rules) text → IsVerdictText m right bytes text) size
      (λ rules given decided printed. record { rules = rules; given = given; decided = decided; printed = printed })
      rules given decided printed)

  faulty : (number offset : ℕ) → FileGives n m bytes (told_fault n number offset) → RulesGiven logic bytes (told_fault logic.size number offset)
  faulty number offset given =
      subst (λ (l : Logic). RulesGiven l bytes (told_fault l.size number offset)) same
      (subst (λ (n : ℕ). FileGives n m bytes (told_fault n number offset) → RulesGiven m bytes (told_fault m.size number offset)) size (λ given. given) given)

  pub refused : (fault : InputFault) → Holds (FileGives n m bytes) (failed n fault) → JudgesBytes logic bytes (Err fault)
  refused Memory given = tt
  refused (Fault number offset) given = faulty number offset given

-- ---- queries

module _ (m logic : Logic) (same : m ≡ logic) (bytes : List ℕ) where
  pub reported : (all_proved : Bool) (text : List ℕ) (asked : List Query) → queries.FileGives m bytes (Ok asked) → IsAnswerText m asked all_proved text → IsReportOn logic all_proved bytes text
  reported all_proved text asked given answers = subst (λ (l : Logic). IsReportOn l all_proved bytes text) same (record { queries = asked; given = given; answers = answers })

  pub clauses_told : (text : List ℕ) (asked : List Query) → queries.FileGives m bytes (Ok asked) → IsClausesText m asked text → IsClausesOn logic bytes text
  clauses_told text asked given told = subst (λ (l : Logic). IsClausesOn l bytes text) same (record { queries = asked; given = given; clauses = told })

  pub tableaux_told : (all_closed : Bool) (text : List ℕ) (asked : List Query) → queries.FileGives m bytes (Ok asked) → IsTableauxText m asked all_closed text → IsTableauxOn logic all_closed bytes text
  tableaux_told all_closed text asked given told = subst (λ (l : Logic). IsTableauxOn l all_closed bytes text) same (record { queries = asked; given = given; tableaux = told })

  pub queries_refused : (fault : InputFault) → Holds (queries.FileGives m bytes) (queries_failed fault) → QueriesRefused logic bytes fault
  queries_refused Memory given = tt
  queries_refused (Fault number offset) given = subst (λ (l : Logic). QueriesGiven l bytes (Err (Fault number offset))) same given

-- the queries of a file can be answered
pub asked_of_file : (logic : Logic) (bytes : List ℕ) (asked : List Query) → IsLogic logic → queries.FileGives logic bytes (Ok asked) → All (IsFileQuery logic) asked → All (IsAsked logic) asked
asked_of_file logic bytes asked is given fits = λ i d lt. record {
  writable = read_queries_writable logic bytes asked is (file_of logic bytes asked given) i d lt;
  propositional = (fits i d lt).query_for.propositional refl;
  few = (fits i d lt).goals;
}

-- and there are few of them
pub few_of_file : (logic : Logic) (bytes : List ℕ) (asked : List Query) → queries.FileGives logic bytes (Ok asked) → length asked < 2 ^ 32
few_of_file logic bytes asked given = few_queries logic bytes asked (file_of logic bytes asked given)

-- ---- reports

abbrev pub report_failed : (n : ℕ) → InputFault → Result (Report n) InputFault
report_failed n fault = Err fault

abbrev report_fault : (n number offset : ℕ) → Result (Report n) InputFault
report_fault n number offset = Err (Fault number offset)

module _ (n : ℕ) (m logic : Logic) (same : m ≡ logic) (size : m.size ≡ n) (bytes : List ℕ) where
  pub checked : (accepted : Bool) (line : List ℕ) (report : Report n) → ReportGives n m bytes (Ok report) → IsTold m (plain_report report) accepted line → IsVerdictOn logic accepted bytes line
  checked accepted line report given told =
      subst (λ (l : Logic). IsVerdictOn l accepted bytes line) same
      (subst (λ (n : ℕ). (report : Report n) → ReportGives n m bytes (Ok report) → IsTold m (plain_report report) accepted line → IsVerdictOn m accepted bytes line) size
      (λ report given told. record { report = report; given = given; told = told })
      report given told)

  faulty_report : (number offset : ℕ) → ReportGives n m bytes (report_fault n number offset) → ReportGiven logic bytes (report_fault logic.size number offset)
  faulty_report number offset given =
      subst (λ (l : Logic). ReportGiven l bytes (report_fault l.size number offset)) same
      (subst (λ (n : ℕ). ReportGives n m bytes (report_fault n number offset) → ReportGiven m bytes (report_fault m.size number offset)) size (λ given. given) given)

  pub report_refused : (fault : InputFault) → Holds (ReportGives n m bytes) (report_failed n fault) → ChecksBytes logic bytes (Err fault)
  report_refused Memory given = tt
  report_refused (Fault number offset) given = faulty_report number offset given
