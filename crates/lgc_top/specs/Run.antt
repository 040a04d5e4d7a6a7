-- What a run answers, and what stands in its sinks after it.
use Rattle.std.specs.Prelude.{◌≡◌, ◌⊎◌, ℕ, Bool, true, false, List, Option, Some, None, Ok, Err, codes}
use Rattle.lgc_io.specs.Files.{FilesState, Holds, FailsAt}
use Rattle.lgc_io.specs.Sinks.{SinkState, Takes, TakesPart}
use Rattle.lgc_values.specs.Logic.{Logic}
use Rattle.lgc_spec.specs.declared.spec.Spec.{Spec}
use Rattle.lgc_spec.specs.declared.fault.Kept.{Kept}
use Rattle.lgc_spec.specs.declared.fault.SpecFault.TheVariants.{Fault}
use Rattle.lgc_spec.specs.Logics.{logic_of}
use Rattle.lgc_spec.specs.Specification.{BytesGive}
use Rattle.lgc_syntax.specs.declared.fault.InputFault.TheVariants as input
use Rattle.lgc_top.specs.declared.command.Format.{Format}
use Rattle.lgc_top.specs.declared.status.Status.{Status}
use Rattle.lgc_top.specs.declared.status.Status.TheVariants.{Done, Refuted, Usage, BadSpec, BadInput, Rejected, ReadFault, WriteFault, Memory}
use Rattle.lgc_top.specs.FaultLine.{fault_line, input_line, read_line}
use Rattle.lgc_top.specs.Calculus.{IsCalculusText}
use Rattle.lgc_top.specs.Verify.{RulesGiven, IsVerdictText}
use Rattle.lgc_top.specs.Prove.{QueriesGiven, IsReportOn}
use Rattle.lgc_top.specs.Check.{ReportGiven, IsVerdictOn, IsSoundOn}
use Rattle.lgc_top.specs.Clauses.{IsClausesOn}
use Rattle.lgc_top.specs.Tableaux.{IsTableauxOn}
use Rattle.lgc_top.specs.Commands.{Command, Calculus, Verify, Prove, Check, Clauses, Tableaux, spec_of, input_of, command_of}

-- a run: its words, and its files and sinks before and after it
pub record Run : Type 0 where
  pub words : List (List ℕ)
  pub files : FilesState
  pub files_after : FilesState
  pub out : SinkState
  pub out_after : SinkState
  pub err : SinkState
  pub err_after : SinkState

abbrev pub run_of : List (List ℕ) → FilesState → FilesState → SinkState → SinkState → SinkState → SinkState → Run
run_of words files files_after out out_after err err_after =
    record { words = words; files = files; files_after = files_after; out = out; out_after = out_after; err = err; err_after = err_after }

-- ---- what a command finds in its files

-- the first file has bytes that give this logic
pub record HasSpec (command : Command) (files : FilesState) (spec : Spec) : Type 0 where
  pub bytes : List ℕ
  pub held : Holds files (spec_of command) bytes
  pub given : BytesGive bytes (Ok spec)

-- the first file gives this logic, and the second has these bytes
pub record HasInput (command : Command) (files : FilesState) (spec : Spec) (bytes : List ℕ) : Type 0 where
  pub logic : HasSpec command files spec
  pub file : List ℕ
  pub named : input_of command ≡ Some file
  pub held : Holds files file bytes

-- the file is read: the first one always, and the second where the first gives a logic
abbrev pub IsRead : Command → FilesState → List ℕ → Type 0
IsRead command files file = (file ≡ spec_of command) ⊎ ((input_of command ≡ Some file) × ((spec : Spec) × HasSpec command files spec))

-- the bytes of a specification have this first fault, and the line tells it
pub record IsFaultOf (bytes line : List ℕ) : Type 0 where
  pub number : ℕ
  pub offset : ℕ
  pub kept : Kept
  pub given : BytesGive bytes (Err (Fault number offset kept))
  pub told : line ≡ fault_line number offset kept

-- the bytes of the second file have this first fault
abbrev pub HasInputFault : Command → Logic → List ℕ → ℕ → ℕ → Type 0
HasInputFault (Calculus _ _) logic bytes number offset = ⊥
HasInputFault (Verify _ _) logic bytes number offset = RulesGiven logic bytes (Err (input.Fault number offset))
HasInputFault (Prove _ _) logic bytes number offset = QueriesGiven logic bytes (Err (input.Fault number offset))
HasInputFault (Check _ _) logic bytes number offset = ReportGiven logic bytes (Err (input.Fault number offset))
HasInputFault (Clauses _ _) logic bytes number offset = QueriesGiven logic bytes (Err (input.Fault number offset))
HasInputFault (Tableaux _ _) logic bytes number offset = QueriesGiven logic bytes (Err (input.Fault number offset))

-- the same, and the line tells it
pub record IsInputFaultOf (command : Command) (logic : Logic) (bytes line : List ℕ) : Type 0 where
  pub number : ℕ
  pub offset : ℕ
  pub given : HasInputFault command logic bytes number offset
  pub told : line ≡ input_line number offset

-- ---- what a command answers

-- the second file has bytes that make this of them true, with the logic of the first
abbrev pub WorksOn : Command → FilesState → (Logic → List ℕ → Type 0) → Type 0
WorksOn command files IsDone = (spec : Spec) × (bytes : List ℕ) × HasInput command files spec bytes × IsDone (logic_of spec) bytes

-- each status that the work of a command ends with, and the bytes that are put under it
abbrev pub Works : Command → FilesState → Status → List ℕ → Type 0
Works (Calculus format file) files Done text = (spec : Spec) × HasSpec (Calculus format file) files spec × IsCalculusText format spec text
Works (Verify file rules) files Done text = WorksOn (Verify file rules) files (λ logic bytes. IsVerdictText logic true bytes text)
Works (Verify file rules) files Rejected text = WorksOn (Verify file rules) files (λ logic bytes. IsVerdictText logic false bytes text)
Works (Prove file queries) files Done text = WorksOn (Prove file queries) files (λ logic bytes. IsReportOn logic true bytes text)
Works (Prove file queries) files Refuted text = WorksOn (Prove file queries) files (λ logic bytes. IsReportOn logic false bytes text)
Works (Check file report) files Done line = WorksOn (Check file report) files (λ logic bytes. IsVerdictOn logic true bytes line)
Works (Check file report) files Rejected line = WorksOn (Check file report) files (λ logic bytes. IsVerdictOn logic false bytes line)
Works (Clauses file queries) files Done text = WorksOn (Clauses file queries) files (λ logic bytes. IsClausesOn logic bytes text)
Works (Tableaux file queries) files Done text = WorksOn (Tableaux file queries) files (λ logic bytes. IsTableauxOn logic true bytes text)
Works (Tableaux file queries) files Refuted text = WorksOn (Tableaux file queries) files (λ logic bytes. IsTableauxOn logic false bytes text)
Works command files status text = ⊥

-- each status that comes of what the files hold, with its cause, and with the bytes that are put under it
abbrev pub FilesAnswer : Command → FilesState → Status → List ℕ → Type 0
FilesAnswer command files BadSpec line = (bytes : List ℕ) × Holds files (spec_of command) bytes × IsFaultOf bytes line
FilesAnswer command files BadInput line = (spec : Spec) × (bytes : List ℕ) × HasInput command files spec bytes × IsInputFaultOf command (logic_of spec) bytes line
FilesAnswer command files status text = Works command files status text

-- The same, or the read of a file failed. Under every other status the files are as they were.
abbrev pub CommandAnswers : Command → FilesState → FilesState → Status → List ℕ → Type 0
CommandAnswers command files files_after ReadFault line = (file : List ℕ) × IsRead command files file × FailsAt files files_after file × (line ≡ read_line file)
CommandAnswers command files files_after status bytes = (files_after ≡ files) × FilesAnswer command files status bytes

-- the same for words that may be no command
abbrev pub WordsAnswer : Option Command → FilesState → FilesState → Status → List ℕ → Type 0
WordsAnswer None files files_after Usage line = (files_after ≡ files) × (line ≡ codes "usage: multlog COMMAND ARGUMENTS\n")
WordsAnswer None files files_after status line = ⊥
WordsAnswer (Some command) files files_after status bytes = CommandAnswers command files files_after status bytes

abbrev pub Answers : Run → Status → List ℕ → Type 0
Answers run status bytes = WordsAnswer (command_of run.words) run.files run.files_after status bytes

-- one sink takes what is put, and the other stays as it was: `out` with the statuses Done, Refuted and Rejected, and else `err`
abbrev pub Puts : Run → Status → (SinkState → SinkState → Type 0) → Type 0
Puts run Done Put = Put run.out run.out_after × (run.err_after ≡ run.err)
Puts run Refuted Put = Put run.out run.out_after × (run.err_after ≡ run.err)
Puts run Rejected Put = Put run.out run.out_after × (run.err_after ≡ run.err)
Puts run status Put = Put run.err run.err_after × (run.out_after ≡ run.out)

-- What stands after a run: all bytes of its answer, or after a failed put the first of them, or nothing where memory ran out.
abbrev pub Ends : Run → Status → Type 0
Ends run WriteFault = (status : Status) × (bytes : List ℕ) × Answers run status bytes × Puts run status (λ old new. TakesPart old new bytes)
Ends run Memory = (run.out_after ≡ run.out) × (run.err_after ≡ run.err)
Ends run status = (bytes : List ℕ) × Answers run status bytes × Puts run status (λ old new. Takes old new bytes)

-- the output gained the calculus of the specification in this file, in this format
pub record PrintsCalculus (run : Run) (format : Format) (file : List ℕ) : Type 0 where
  pub spec : Spec
  pub asked : HasSpec (Calculus format file) run.files spec
  pub text : List ℕ
  pub calculus : IsCalculusText format spec text
  pub printed : Takes run.out run.out_after text

-- the output gained a text of the bytes of the second file, with the logic of the first
pub record PrintsOn (run : Run) (command : Command) (IsTextOn : Logic → List ℕ → List ℕ → Type 0) : Type 0 where
  pub spec : Spec
  pub bytes : List ℕ
  pub asked : HasInput command run.files spec bytes
  pub text : List ℕ
  pub is : IsTextOn (logic_of spec) bytes text
  pub printed : Takes run.out run.out_after text

-- it is that of the lines on the rules, and `right` tells whether all of them are right
abbrev pub PrintsVerdicts : Run → List ℕ → List ℕ → Bool → Type 0
PrintsVerdicts run file rules right = PrintsOn run (Verify file rules) (λ logic bytes text. IsVerdictText logic right bytes text)

-- it is that of a report that answers the queries, and `all_proved` tells whether all of them are proved
abbrev pub PrintsReport : Run → List ℕ → List ℕ → Bool → Type 0
PrintsReport run file queries all_proved = PrintsOn run (Prove file queries) (λ logic bytes text. IsReportOn logic all_proved bytes text)

-- it is the line that tells the verdict on the report, and `accepted` tells whether the report is valid
abbrev pub PrintsVerdictOn : Run → List ℕ → List ℕ → Bool → Type 0
PrintsVerdictOn run file report accepted = PrintsOn run (Check file report) (λ logic bytes line. IsVerdictOn logic accepted bytes line)

-- it tells the signed clauses of the queries
abbrev pub PrintsClauses : Run → List ℕ → List ℕ → Type 0
PrintsClauses run file queries = PrintsOn run (Clauses file queries) IsClausesOn

-- it has the tableaux of the queries, and `all_closed` tells whether all of them are closed
abbrev pub PrintsTableaux : Run → List ℕ → List ℕ → Bool → Type 0
PrintsTableaux run file queries all_closed = PrintsOn run (Tableaux file queries) (λ logic bytes text. IsTableauxOn logic all_closed bytes text)

-- the second file has a report, which is sound for the logic of the first
pub record IsSoundFor (run : Run) (file report : List ℕ) : Type 0 where
  pub spec : Spec
  pub bytes : List ℕ
  pub asked : HasInput (Check file report) run.files spec bytes
  pub sound : IsSoundOn (logic_of spec) bytes

-- ---- numbers, and single puts

-- the number that the process ends with
abbrev pub number_of : Status → ℕ
number_of Done = 0
number_of Refuted = 1
number_of Usage = 2
number_of BadSpec = 3
number_of BadInput = 4
number_of Rejected = 5
number_of ReadFault = 6
number_of WriteFault = 7
number_of Memory = 8

-- whether the bytes are put to `out`
abbrev pub goes_out : Status → Bool
goes_out Done = true
goes_out Refuted = true
goes_out Rejected = true
goes_out status = false

-- after a put to a sink: the status that was meant, or the one that the put gave
abbrev pub AfterPut : SinkState → SinkState → List ℕ → Status → Status → Type 0
AfterPut old new bytes meant ended = (Takes old new bytes × (ended ≡ meant)) ⊎ ((TakesPart old new bytes × (ended ≡ WriteFault)) ⊎ ((new ≡ old) × (ended ≡ Memory)))
