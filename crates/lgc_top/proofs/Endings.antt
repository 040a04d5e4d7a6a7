-- What a run printed, from how it ended; and answers to rule files.
use Rattle.std.proofs.Common.{◌≡◌, ℕ, ◌<◌, length, Bool, true, false, List, Some, Result, Err, refl, subst, arith}
use Rattle.std.specs.Prelude.{nat_lt}
use Rattle.std.proofs.lemmas.Bool.Decides.{nat_tests}
use Rattle.lgc_io.specs.Files.{FilesState}
use Rattle.lgc_io.specs.Sinks.{Takes}
use Rattle.lgc_values.specs.Logic.{Logic}
use Rattle.lgc_clauses.specs.declared.rule.Rule.{Rule}
use Rattle.lgc_syntax.specs.declared.fault.InputFault.{InputFault}
use Rattle.lgc_syntax.specs.declared.fault.InputFault.TheVariants as input
use Rattle.lgc_syntax.specs.declared.fault.TheConstants as syntax
use Rattle.lgc_top.specs.declared.command.Format.{Format}
use Rattle.lgc_top.specs.declared.status.Status.{Status}
use Rattle.lgc_top.specs.declared.status.Status.TheVariants.{Done, Refuted, Rejected}
use Rattle.lgc_rules.specs.declared.file.TheConstants as rules
use Rattle.lgc_queries.specs.declared.TheConstants as queries
use Rattle.lgc_report.specs.declared.report.Report.{Report}
use Rattle.lgc_report_reader.specs.declared.report.TheConstants as reports
use Rattle.lgc_meaning.specs.declared.query.Query.{Query}
use Rattle.lgc_top.specs.declared.command.Work.{Work}
use Rattle.lgc_top.specs.declared.command.Work.TheVariants as work
use Rattle.lgc_top.specs.Verify.{RulesGiven, IsVerdictText}
use Rattle.lgc_top.specs.Prove.{QueriesGiven, IsReportOn}
use Rattle.lgc_top.specs.Check.{ReportGiven, IsVerdictOn}
use Rattle.lgc_top.specs.Steps.{on_both, limit_of, verdict_status, answer_status}
use Rattle.lgc_spec.specs.declared.spec.Spec.{Spec}
use Rattle.lgc_spec.specs.Logics.{logic_of}
use Rattle.lgc_top.specs.Clauses.{IsClausesOn}
use Rattle.lgc_top.specs.Tableaux.{IsTableauxOn}
use Rattle.lgc_top.specs.Commands.{Command, Calculus, Verify, Prove, Check, Clauses, Tableaux, spec_of, input_of, command_of}
use Rattle.lgc_top.specs.Run.{Run, HasInput, HasInputFault, WorksOn, CommandAnswers, Answers, Ends, WordsAnswer, PrintsCalculus, PrintsOn, PrintsVerdicts, PrintsReport, PrintsVerdictOn, PrintsClauses, PrintsTableaux, IsSoundFor}

-- what the output gained
module _ (run : Run) where
  pub prints_calculus : (format : Format) (file : List ℕ) (ended : Status) → Ends run ended → command_of run.words ≡ Some (Calculus format file) → ended ≡ Done → PrintsCalculus run format file
  prints_calculus format file ended ends command is = from (subst (Ends run) is ends) where
    from : Ends run Done → PrintsCalculus run format file
    from (text, answers, (takes, same)) =
        let (kept, (spec, asked, calculus)) = subst (λ found. WordsAnswer found run.files run.files_after Done text) command answers in
        record { spec = spec; asked = asked; text = text; calculus = calculus; printed = takes }

  -- what stands in the output after the work on a second file
  module _ (command : Command) (status ended : Status) (IsTextOn : Logic → List ℕ → List ℕ → Type 0) (out : Ends run status → (text : List ℕ) × Answers run status text × Takes run.out run.out_after text)
      (works : (text : List ℕ) → CommandAnswers command run.files run.files_after status text → WorksOn command run.files (λ logic bytes. IsTextOn logic bytes text)) where
    prints_on : Ends run ended → command_of run.words ≡ Some command → ended ≡ status → PrintsOn run command IsTextOn
    prints_on ends asks is =
        let (text, answers, takes) = out (subst (Ends run) is ends) in
        let (spec, bytes, asked, done) = works text (subst (λ found. WordsAnswer found run.files run.files_after status text) asks answers) in
        record { spec = spec; bytes = bytes; asked = asked; text = text; is = done; printed = takes }

  done : Ends run Done → (text : List ℕ) × Answers run Done text × Takes run.out run.out_after text
  done (text, answers, (takes, same)) = (text, answers, takes)

  refuted : Ends run Refuted → (text : List ℕ) × Answers run Refuted text × Takes run.out run.out_after text
  refuted (text, answers, (takes, same)) = (text, answers, takes)

  rejected : Ends run Rejected → (text : List ℕ) × Answers run Rejected text × Takes run.out run.out_after text
  rejected (text, answers, (takes, same)) = (text, answers, takes)

  pub prints_right : (file rules : List ℕ) (ended : Status) → Ends run ended → command_of run.words ≡ Some (Verify file rules) → ended ≡ Done → PrintsVerdicts run file rules true
  prints_right file rules ended = prints_on (Verify file rules) Done ended (λ logic bytes text. IsVerdictText logic true bytes text) done (λ text answers. answers.1)

  pub prints_rejected : (file rules : List ℕ) (ended : Status) → Ends run ended → command_of run.words ≡ Some (Verify file rules) → ended ≡ Rejected → PrintsVerdicts run file rules false
  prints_rejected file rules ended = prints_on (Verify file rules) Rejected ended (λ logic bytes text. IsVerdictText logic false bytes text) rejected (λ text answers. answers.1)

  pub prints_proved : (file queries : List ℕ) (ended : Status) → Ends run ended → command_of run.words ≡ Some (Prove file queries) → ended ≡ Done → PrintsReport run file queries true
  prints_proved file queries ended = prints_on (Prove file queries) Done ended (λ logic bytes text. IsReportOn logic true bytes text) done (λ text answers. answers.1)

  pub prints_refuted : (file queries : List ℕ) (ended : Status) → Ends run ended → command_of run.words ≡ Some (Prove file queries) → ended ≡ Refuted → PrintsReport run file queries false
  prints_refuted file queries ended = prints_on (Prove file queries) Refuted ended (λ logic bytes text. IsReportOn logic false bytes text) refuted (λ text answers. answers.1)

  pub prints_accepted : (file report : List ℕ) (ended : Status) → Ends run ended → command_of run.words ≡ Some (Check file report) → ended ≡ Done → PrintsVerdictOn run file report true
  prints_accepted file report ended = prints_on (Check file report) Done ended (λ logic bytes line. IsVerdictOn logic true bytes line) done (λ text answers. answers.1)

  pub prints_invalid : (file report : List ℕ) (ended : Status) → Ends run ended → command_of run.words ≡ Some (Check file report) → ended ≡ Rejected → PrintsVerdictOn run file report false
  prints_invalid file report ended = prints_on (Check file report) Rejected ended (λ logic bytes line. IsVerdictOn logic false bytes line) rejected (λ text answers. answers.1)

  pub prints_clauses : (file queries : List ℕ) (ended : Status) → Ends run ended → command_of run.words ≡ Some (Clauses file queries) → ended ≡ Done → PrintsClauses run file queries
  prints_clauses file queries ended = prints_on (Clauses file queries) Done ended IsClausesOn done (λ text answers. answers.1)

  pub prints_closed : (file queries : List ℕ) (ended : Status) → Ends run ended → command_of run.words ≡ Some (Tableaux file queries) → ended ≡ Done → PrintsTableaux run file queries true
  prints_closed file queries ended = prints_on (Tableaux file queries) Done ended (λ logic bytes text. IsTableauxOn logic true bytes text) done (λ text answers. answers.1)

  pub prints_unclosed : (file queries : List ℕ) (ended : Status) → Ends run ended → command_of run.words ≡ Some (Tableaux file queries) → ended ≡ Refuted → PrintsTableaux run file queries false
  prints_unclosed file queries ended = prints_on (Tableaux file queries) Refuted ended (λ logic bytes text. IsTableauxOn logic false bytes text) refuted (λ text answers. answers.1)

  -- what is accepted is sound
  pub sound_accepted : (file report : List ℕ) (ended : Status) → Ends run ended → command_of run.words ≡ Some (Check file report) → ended ≡ Done → IsSoundFor run file report
  sound_accepted file report ended ends asks is =
      let printed = prints_accepted file report ended ends asks is in
      record { spec = printed.spec; bytes = printed.bytes; asked = printed.asked; sound = record { report = printed.is.report; given = printed.is.given; sound = printed.is.told.sound refl } }

abbrev told_fault : (n number offset : ℕ) → Result (List (Rule n)) InputFault
told_fault n number offset = Err (input.Fault number offset)

abbrev queries_fault : (number offset : ℕ) → Result (List Query) InputFault
queries_fault number offset = Err (input.Fault number offset)

long_rules : (logic : Logic) (bytes : List ℕ) → rules.LONGEST_FILE < length bytes → RulesGiven logic bytes (told_fault logic.size syntax.FILE_TOO_LONG rules.LONGEST_FILE)
long_rules logic bytes long =
    let is : nat_lt rules.LONGEST_FILE (length bytes) ≡ true = grind (arith, nat_tests) in
    rw is refl

long_queries : (logic : Logic) (bytes : List ℕ) → queries.LONGEST_FILE < length bytes → QueriesGiven logic bytes (queries_fault syntax.FILE_TOO_LONG queries.LONGEST_FILE)
long_queries logic bytes long =
    let is : nat_lt queries.LONGEST_FILE (length bytes) ≡ true = grind (arith, nat_tests) in
    rw is refl

abbrev report_fault : (n number offset : ℕ) → Result (Report n) InputFault
report_fault n number offset = Err (input.Fault number offset)

long_report : (logic : Logic) (bytes : List ℕ) → reports.LONGEST_REPORT < length bytes → ReportGiven logic bytes (report_fault logic.size syntax.FILE_TOO_LONG reports.LONGEST_REPORT)
long_report logic bytes long =
    let is : nat_lt reports.LONGEST_REPORT (length bytes) ≡ true = grind (arith, nat_tests) in
    rw is refl

-- a second file that is too long has this fault
pub long_input : (work : Work) (file name : List ℕ) (logic : Logic) (bytes : List ℕ) → limit_of work < length bytes → HasInputFault (on_both work file name) logic bytes syntax.FILE_TOO_LONG (limit_of work)
long_input work.Verify file name logic bytes long = long_rules logic bytes long
long_input work.Prove file name logic bytes long = long_queries logic bytes long
long_input work.Check file name logic bytes long = long_report logic bytes long
long_input work.Clauses file name logic bytes long = long_queries logic bytes long
long_input work.Tableaux file name logic bytes long = long_queries logic bytes long

-- the files of work on two files
pub spec_of-on_both : (work : Work) (file name : List ℕ) → spec_of (on_both work file name) ≡ file
spec_of-on_both work.Verify file name = refl
spec_of-on_both work.Prove file name = refl
spec_of-on_both work.Check file name = refl
spec_of-on_both work.Clauses file name = refl
spec_of-on_both work.Tableaux file name = refl

pub input_of-on_both : (work : Work) (file name : List ℕ) → input_of (on_both work file name) ≡ Some name
input_of-on_both work.Verify file name = refl
input_of-on_both work.Prove file name = refl
input_of-on_both work.Check file name = refl
input_of-on_both work.Clauses file name = refl
input_of-on_both work.Tableaux file name = refl

-- the lines on rules answer the words, under the status by whether all rules are right
pub lines_answer : (file rules : List ℕ) (files files_after : FilesState) (spec : Spec) (bytes text : List ℕ) (right : Bool) (status : Status) → files_after ≡ files → status ≡ verdict_status right → HasInput (Verify file rules) files spec bytes → IsVerdictText (logic_of spec) right bytes text → CommandAnswers (Verify file rules) files files_after status text
lines_answer file rules files files_after spec bytes text true status kept is asked verdicts = rw is (kept, (spec, bytes, asked, verdicts))
lines_answer file rules files files_after spec bytes text false status kept is asked verdicts = rw is (kept, (spec, bytes, asked, verdicts))

-- the text of a report answers the words, under the status by whether all queries are proved
pub report_answers : (file queries : List ℕ) (files files_after : FilesState) (spec : Spec) (bytes text : List ℕ) (all_proved : Bool) (status : Status) → files_after ≡ files → status ≡ answer_status all_proved → HasInput (Prove file queries) files spec bytes → IsReportOn (logic_of spec) all_proved bytes text → CommandAnswers (Prove file queries) files files_after status text
report_answers file queries files files_after spec bytes text true status kept is asked report = rw is (kept, (spec, bytes, asked, report))
report_answers file queries files files_after spec bytes text false status kept is asked report = rw is (kept, (spec, bytes, asked, report))

-- the verdict on a report answers the words, under the status by whether the report is accepted
pub verdict_answers : (file report : List ℕ) (files files_after : FilesState) (spec : Spec) (bytes line : List ℕ) (accepted : Bool) (status : Status) → files_after ≡ files → status ≡ verdict_status accepted → HasInput (Check file report) files spec bytes → IsVerdictOn (logic_of spec) accepted bytes line → CommandAnswers (Check file report) files files_after status line
verdict_answers file report files files_after spec bytes line true status kept is asked verdict = rw is (kept, (spec, bytes, asked, verdict))
verdict_answers file report files files_after spec bytes line false status kept is asked verdict = rw is (kept, (spec, bytes, asked, verdict))

-- the text of tableaux answers the words, under the status by whether all of them are closed
pub tableaux_answer : (file queries : List ℕ) (files files_after : FilesState) (spec : Spec) (bytes text : List ℕ) (all_closed : Bool) (status : Status) → files_after ≡ files → status ≡ answer_status all_closed → HasInput (Tableaux file queries) files spec bytes → IsTableauxOn (logic_of spec) all_closed bytes text → CommandAnswers (Tableaux file queries) files files_after status text
tableaux_answer file queries files files_after spec bytes text true status kept is asked tableaux = rw is (kept, (spec, bytes, asked, tableaux))
tableaux_answer file queries files files_after spec bytes text false status kept is asked tableaux = rw is (kept, (spec, bytes, asked, tableaux))
