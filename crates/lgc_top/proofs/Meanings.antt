-- The files of a command mean one status, the one that is answered.
use Rattle.std.proofs.Common.{◌≡◌, ℕ, true, false, List, Some, None, Result, Ok, Err, refl, sym, subst, ◌∙◌, inl, inr}
use Rattle.std.specs.Prelude.{◌⊎◌, Option, IfSome, IsSomeAnd, All, map}
use Rattle.lgc_io.specs.Files.{FilesState, Holds, file_at}
use Rattle.lgc_io.specs.Sinks.{TakesPart}
use Rattle.lgc_values.specs.Logic.{Logic}
use Rattle.lgc_clauses.specs.declared.rule.Rule.{Rule}
use Rattle.lgc_clauses.specs.Kinds.{plain_rule}
use Rattle.lgc_spec.specs.declared.spec.Spec.{Spec}
use Rattle.lgc_spec.specs.declared.fault.SpecFault.{SpecFault}
use Rattle.lgc_spec.specs.declared.fault.SpecFault.TheVariants.{Fault}
use Rattle.lgc_spec.specs.Logics.{logic_of}
use Rattle.lgc_spec.specs.Specification.{BytesGive}
use Rattle.lgc_spec.proofs.OneSpec.{one_answer}
use Rattle.lgc_syntax.specs.declared.fault.InputFault.{InputFault}
use Rattle.lgc_syntax.specs.declared.fault.InputFault.TheVariants as input
use Rattle.lgc_meaning.specs.declared.query.Query.{Query}
use Rattle.lgc_verify.specs.Verdicts.{IsRight}
use Rattle.lgc_meaning.specs.Satisfied.{IsSatisfiedEverywhere}
use Rattle.lgc_rules.proofs.Tops as rules
use Rattle.lgc_queries.proofs.QueryFiles as queries
use Rattle.lgc_report.specs.declared.report.Report.{Report}
use Rattle.lgc_report.specs.Reports.{plain_report}
use Rattle.lgc_report.specs.Valid.{IsValid}
use Rattle.lgc_report_reader.proofs.ReportFiles as reports
use Rattle.lgc_top.specs.declared.status.Status.{Status}
use Rattle.lgc_top.specs.declared.status.Status.TheVariants.{Done, Refuted, Usage, BadSpec, BadInput, Rejected, ReadFault, WriteFault, Memory}
use Rattle.lgc_top.specs.Commands.{Command, Calculus, Verify, Prove, Check, Clauses, Tableaux, spec_of, input_of}
use Rattle.lgc_top.specs.Verify.{RulesGiven}
use Rattle.lgc_top.specs.Prove.{QueriesGiven}
use Rattle.lgc_top.specs.Check.{ReportGiven}
use Rattle.lgc_top.specs.Run.{Run, Ends, Answers, FilesAnswer, CommandAnswers, WordsAnswer, Works, Puts, HasSpec, HasInput}
use Rattle.lgc_top.specs.Means.{Tells, GivenMeans, InputMeans, LogicMeans, SpecMeans, CommandMeans, Means, IsFaultless}

-- what a file that is told holds is one list of bytes
held_once : (files : FilesState) (file bytes other : List ℕ) → Holds files file bytes → Tells files file other → bytes ≡ other
held_once files file bytes other held told = by files.told held told where
  by : (all : Option (List (List ℕ × List ℕ))) → IfSome all (λ told. file_at told file ≡ Some bytes) → IsSomeAnd all (λ told. file_at told file ≡ Some other) → bytes ≡ other
  by None held told = absurd told
  by (Some all) held told = let same : Some bytes ≡ Some other = sym held ∙ told in cc

-- ---- an answered status is meant

module _ (command : Command) (files : FilesState) (status : Status) where
  -- what the logic of a specification means
  with_spec : (spec : Spec) → HasSpec command files spec → LogicMeans (Holds files) command (logic_of spec) status → CommandMeans (Holds files) command status
  with_spec spec has means = (has.bytes, Ok spec, has.held, has.given, means)

  -- what a second file gives
  module _ {A : Type 0} (name : List ℕ) (named : input_of command ≡ Some name) (spec : Spec) (bytes : List ℕ) (has : HasInput command files spec bytes) (Gives : List ℕ → Result A InputFault → Type 0) (Passes : A → Type 0) (failing : Status) where
    held : Holds files name bytes
    held = let same : has.file ≡ name = (let some : Some name ≡ Some has.file = sym named ∙ has.named in cc) in subst (λ file. Holds files file bytes) same has.held

    with_input : (told : Result A InputFault) → Gives bytes told → GivenMeans Passes failing told status → InputMeans (Holds files) name Gives Passes failing status
    with_input told gives means = (bytes, told, held, gives, means)

abbrev is_right : (logic : Logic) → List (Rule logic.size) → Type 0
is_right logic rules = All (IsRight logic) (map plain_rule rules)

abbrev any_queries : List Query → Type 0
any_queries queries = Unit {0}

abbrev is_valid : (logic : Logic) → Report logic.size → Type 0
is_valid logic report = IsValid logic (plain_report report)

works_mean : (command : Command) (files : FilesState) (status : Status) (text : List ℕ) → Works command files status text → CommandMeans (Holds files) command status
works_mean (Calculus format file) files Done text (spec, has, calculus) = with_spec (Calculus format file) files Done spec has refl
works_mean (Calculus format file) files _ text h = absurd h
works_mean (Verify file rules) files Done text (spec, bytes, has, verdicts) =
    with_spec (Verify file rules) files Done spec has.logic (with_input (Verify file rules) files Done rules refl spec bytes has (RulesGiven (logic_of spec)) (is_right (logic_of spec)) Rejected (Ok verdicts.rules) verdicts.given (inl (verdicts.decided.0 refl, refl)))
works_mean (Verify file rules) files Rejected text (spec, bytes, has, verdicts) =
    with_spec (Verify file rules) files Rejected spec has.logic (with_input (Verify file rules) files Rejected rules refl spec bytes has (RulesGiven (logic_of spec)) (is_right (logic_of spec)) Rejected (Ok verdicts.rules) verdicts.given
    (inr ((λ all. let no : false ≡ true = verdicts.decided.1 all in absurd cc), refl)))
works_mean (Verify file rules) files _ text h = absurd h
works_mean (Prove file queries) files Done text (spec, bytes, has, report) =
    with_spec (Prove file queries) files Done spec has.logic (with_input (Prove file queries) files Done queries refl spec bytes has (QueriesGiven (logic_of spec)) (All (IsSatisfiedEverywhere (logic_of spec))) Refuted (Ok report.queries) report.given (inl (report.answers.decided.0 refl, refl)))
works_mean (Prove file queries) files Refuted text (spec, bytes, has, report) =
    with_spec (Prove file queries) files Refuted spec has.logic (with_input (Prove file queries) files Refuted queries refl spec bytes has (QueriesGiven (logic_of spec)) (All (IsSatisfiedEverywhere (logic_of spec))) Refuted (Ok report.queries) report.given
    (inr ((λ all. let no : false ≡ true = report.answers.decided.1 all in absurd cc), refl)))
works_mean (Prove file queries) files _ text h = absurd h
works_mean (Check file report) files Done line (spec, bytes, has, verdict) =
    with_spec (Check file report) files Done spec has.logic (with_input (Check file report) files Done report refl spec bytes has (ReportGiven (logic_of spec)) (is_valid (logic_of spec)) Rejected (Ok verdict.report) verdict.given (inl (verdict.told.valid.0 refl, refl)))
works_mean (Check file report) files Rejected line (spec, bytes, has, verdict) =
    with_spec (Check file report) files Rejected spec has.logic (with_input (Check file report) files Rejected report refl spec bytes has (ReportGiven (logic_of spec)) (is_valid (logic_of spec)) Rejected (Ok verdict.report) verdict.given
    (inr ((λ valid. let no : false ≡ true = verdict.told.valid.1 valid in absurd cc), refl)))
works_mean (Check file report) files _ line h = absurd h
works_mean (Clauses file queries) files Done text (spec, bytes, has, told) =
    with_spec (Clauses file queries) files Done spec has.logic (with_input (Clauses file queries) files Done queries refl spec bytes has (QueriesGiven (logic_of spec)) any_queries Done (Ok told.queries) told.given (inl (tt, refl)))
works_mean (Clauses file queries) files _ text h = absurd h
works_mean (Tableaux file queries) files Done text (spec, bytes, has, told) =
    with_spec (Tableaux file queries) files Done spec has.logic (with_input (Tableaux file queries) files Done queries refl spec bytes has (QueriesGiven (logic_of spec)) (All (IsSatisfiedEverywhere (logic_of spec))) Refuted (Ok told.queries) told.given (inl (told.tableaux.decided.0 refl, refl)))
works_mean (Tableaux file queries) files Refuted text (spec, bytes, has, told) =
    with_spec (Tableaux file queries) files Refuted spec has.logic (with_input (Tableaux file queries) files Refuted queries refl spec bytes has (QueriesGiven (logic_of spec)) (All (IsSatisfiedEverywhere (logic_of spec))) Refuted (Ok told.queries) told.given
    (inr ((λ all. let no : false ≡ true = told.tableaux.decided.1 all in absurd cc), refl)))
works_mean (Tableaux file queries) files _ text h = absurd h

faults_mean : (command : Command) (files : FilesState) (line : List ℕ) → FilesAnswer command files BadInput line → CommandMeans (Holds files) command BadInput
faults_mean (Calculus format file) files line (spec, bytes, has, fault) = absurd fault.given
faults_mean (Verify file rules) files line (spec, bytes, has, fault) =
    with_spec (Verify file rules) files BadInput spec has.logic (with_input (Verify file rules) files BadInput rules refl spec bytes has (RulesGiven (logic_of spec)) (is_right (logic_of spec)) Rejected (Err (input.Fault fault.number fault.offset)) fault.given refl)
faults_mean (Prove file queries) files line (spec, bytes, has, fault) =
    with_spec (Prove file queries) files BadInput spec has.logic (with_input (Prove file queries) files BadInput queries refl spec bytes has (QueriesGiven (logic_of spec)) (All (IsSatisfiedEverywhere (logic_of spec))) Refuted (Err (input.Fault fault.number fault.offset)) fault.given refl)
faults_mean (Check file report) files line (spec, bytes, has, fault) =
    with_spec (Check file report) files BadInput spec has.logic (with_input (Check file report) files BadInput report refl spec bytes has (ReportGiven (logic_of spec)) (is_valid (logic_of spec)) Rejected (Err (input.Fault fault.number fault.offset)) fault.given refl)
faults_mean (Clauses file queries) files line (spec, bytes, has, fault) =
    with_spec (Clauses file queries) files BadInput spec has.logic (with_input (Clauses file queries) files BadInput queries refl spec bytes has (QueriesGiven (logic_of spec)) any_queries Done (Err (input.Fault fault.number fault.offset)) fault.given refl)
faults_mean (Tableaux file queries) files line (spec, bytes, has, fault) =
    with_spec (Tableaux file queries) files BadInput spec has.logic (with_input (Tableaux file queries) files BadInput queries refl spec bytes has (QueriesGiven (logic_of spec)) (All (IsSatisfiedEverywhere (logic_of spec))) Refuted (Err (input.Fault fault.number fault.offset)) fault.given refl)

answers_mean : (command : Command) (files files_after : FilesState) (status : Status) (bytes : List ℕ) → CommandAnswers command files files_after status bytes → (status ≡ ReadFault → ⊥) → CommandMeans (Holds files) command status
answers_mean command files files_after ReadFault line h other = absurd (other refl)
answers_mean command files files_after BadSpec line (same, (bytes, held, fault)) other = (bytes, Err (Fault fault.number fault.offset fault.kept), held, fault.given, refl)
answers_mean command files files_after BadInput line (same, h) other = faults_mean command files line h
answers_mean command files files_after Done text (same, h) other = works_mean command files Done text h
answers_mean command files files_after Refuted text (same, h) other = works_mean command files Refuted text h
answers_mean command files files_after Rejected text (same, h) other = works_mean command files Rejected text h
answers_mean command files files_after Usage text (same, h) other = works_mean command files Usage text h
answers_mean command files files_after WriteFault text (same, h) other = works_mean command files WriteFault text h
answers_mean command files files_after Memory text (same, h) other = works_mean command files Memory text h

-- ---- one status is meant

-- what bytes give means one status
given_once : {A : Type 0} (Passes : A → Type 0) (failing : Status) (told : Result A InputFault) (a b : Status) → GivenMeans Passes failing told a → GivenMeans Passes failing told b → a ≡ b
given_once Passes failing (Err fault) a b p q = p ∙ sym q
given_once Passes failing (Ok given) a b (inl p) (inl q) = p.1 ∙ sym q.1
given_once Passes failing (Ok given) a b (inl p) (inr q) = absurd (q.0 p.0)
given_once Passes failing (Ok given) a b (inr p) (inl q) = absurd (p.0 q.0)
given_once Passes failing (Ok given) a b (inr p) (inr q) = p.1 ∙ sym q.1

module _ (files : FilesState) where
  -- and so does a second file, whose bytes give one thing
  input_once : {A : Type 0} (name : List ℕ) (Gives : List ℕ → Result A InputFault → Type 0) (Passes : A → Type 0) (failing : Status) → ((bytes : List ℕ) (found also : Result A InputFault) → Gives bytes found → Gives bytes also → found ≡ also)
      → (a b : Status) → InputMeans (Holds files) name Gives Passes failing a → InputMeans (Tells files) name Gives Passes failing b → a ≡ b
  input_once name Gives Passes failing once a b (bytes, found, held, gives, p) (other, also, told, given, q) =
      let same : bytes ≡ other = held_once files name bytes other held told in
      let one : found ≡ also = once bytes found also gives (subst (λ some. Gives some also) (sym same) given) in
      given_once Passes failing found a b p (subst (λ f. GivenMeans Passes failing f b) (sym one) q)

  rules_once : (logic : Logic) (bytes : List ℕ) (found also : Result (List (Rule logic.size)) InputFault) → RulesGiven logic bytes found → RulesGiven logic bytes also → found ≡ also
  rules_once logic bytes found also gives given = sym (rules.file_once logic.size logic bytes found gives) ∙ rules.file_once logic.size logic bytes also given

  queries_once : (logic : Logic) (bytes : List ℕ) (found also : Result (List Query) InputFault) → QueriesGiven logic bytes found → QueriesGiven logic bytes also → found ≡ also
  queries_once logic bytes found also gives given = sym (queries.file_once logic bytes found gives) ∙ queries.file_once logic bytes also given

  report_once : (logic : Logic) (bytes : List ℕ) (found also : Result (Report logic.size) InputFault) → ReportGiven logic bytes found → ReportGiven logic bytes also → found ≡ also
  report_once logic bytes found also gives given = sym (reports.report_once logic.size logic bytes found gives) ∙ reports.report_once logic.size logic bytes also given

  spec_once : (command : Command) (found : Result Spec SpecFault) (a b : Status) → SpecMeans (Holds files) command found a → SpecMeans (Tells files) command found b → a ≡ b
  spec_once command (Err fault) a b p q = p ∙ sym q
  spec_once (Calculus format file) (Ok spec) a b p q = p ∙ sym q
  spec_once (Verify file rules) (Ok spec) a b p q = input_once rules (RulesGiven (logic_of spec)) (is_right (logic_of spec)) Rejected (rules_once (logic_of spec)) a b p q
  spec_once (Prove file queries) (Ok spec) a b p q = input_once queries (QueriesGiven (logic_of spec)) (All (IsSatisfiedEverywhere (logic_of spec))) Refuted (queries_once (logic_of spec)) a b p q
  spec_once (Check file report) (Ok spec) a b p q = input_once report (ReportGiven (logic_of spec)) (is_valid (logic_of spec)) Rejected (report_once (logic_of spec)) a b p q
  spec_once (Clauses file queries) (Ok spec) a b p q = input_once queries (QueriesGiven (logic_of spec)) any_queries Done (queries_once (logic_of spec)) a b p q
  spec_once (Tableaux file queries) (Ok spec) a b p q = input_once queries (QueriesGiven (logic_of spec)) (All (IsSatisfiedEverywhere (logic_of spec))) Refuted (queries_once (logic_of spec)) a b p q

  means_once : (command : Command) (a b : Status) → CommandMeans (Holds files) command a → CommandMeans (Tells files) command b → a ≡ b
  means_once command a b (bytes, found, held, gives, p) (other, also, told, given, q) =
      let same : bytes ≡ other = held_once files (spec_of command) bytes other held told in
      let one : found ≡ also = one_answer bytes found also gives (subst (λ some. BytesGive some also) (sym same) given) in
      spec_once command found a b p (subst (λ f. SpecMeans (Tells files) command f b) (sym one) q)

-- what is answered is what the files mean
module _ (run : Run) (meant : Status) (means : Means run meant) (none : IsFaultless run) where
  answered : (status : Status) (bytes : List ℕ) → Answers run status bytes → CommandAnswers means.command run.files run.files_after status bytes
  answered status bytes answers = subst (λ found. WordsAnswer found run.files run.files_after status bytes) means.asked answers

  is_meant : (status : Status) (bytes : List ℕ) → Answers run status bytes → (status ≡ ReadFault → ⊥) → status ≡ meant
  is_meant status bytes answers other =
      means_once run.files means.command status meant (answers_mean means.command run.files run.files_after status bytes (answered status bytes answers) other) means.meant

  pub completes : (ended : Status) → Ends run ended → (ended ≡ meant) ⊎ (ended ≡ Memory)
  completes Done (bytes, answers, _) = inl (is_meant Done bytes answers (λ e. absurd cc))
  completes Refuted (bytes, answers, _) = inl (is_meant Refuted bytes answers (λ e. absurd cc))
  completes Rejected (bytes, answers, _) = inl (is_meant Rejected bytes answers (λ e. absurd cc))
  completes Usage (bytes, answers, _) = inl (is_meant Usage bytes answers (λ e. absurd cc))
  completes BadSpec (bytes, answers, _) = inl (is_meant BadSpec bytes answers (λ e. absurd cc))
  completes BadInput (bytes, answers, _) = inl (is_meant BadInput bytes answers (λ e. absurd cc))
  completes Memory ends = inr refl
  completes ReadFault (bytes, answers, _) = let (file, read, failed, line) = answered ReadFault bytes answers in absurd (none.files failed.rose)
  completes WriteFault (status, bytes, answers, puts) = absurd (rises status puts) where
    rises : (status : Status) → Puts run status (λ old new. TakesPart old new bytes) → ⊥
    rises Done (takes, _) = none.out takes.rose
    rises Refuted (takes, _) = none.out takes.rose
    rises Rejected (takes, _) = none.out takes.rose
    rises Usage (takes, _) = none.err takes.rose
    rises BadSpec (takes, _) = none.err takes.rose
    rises BadInput (takes, _) = none.err takes.rose
    rises ReadFault (takes, _) = none.err takes.rose
    rises WriteFault (takes, _) = none.err takes.rose
    rises Memory (takes, _) = none.err takes.rose
