-- What the files of a command mean: the status that a run on them is meant to end with.
use Rattle.std.specs.Prelude.{◌≡◌, ◌⊎◌, ℕ, List, All, map, Some, Result, Ok, Err, IsSomeAnd}
use Rattle.lgc_io.specs.Faults.{Rose}
use Rattle.lgc_io.specs.Files.{FilesState, file_at}
use Rattle.lgc_values.specs.Logic.{Logic}
use Rattle.lgc_clauses.specs.Kinds.{plain_rule}
use Rattle.lgc_spec.specs.declared.spec.Spec.{Spec}
use Rattle.lgc_spec.specs.declared.fault.SpecFault.{SpecFault}
use Rattle.lgc_spec.specs.Logics.{logic_of}
use Rattle.lgc_spec.specs.Specification.{BytesGive}
use Rattle.lgc_syntax.specs.declared.fault.InputFault.{InputFault}
use Rattle.lgc_verify.specs.Verdicts.{IsRight}
use Rattle.lgc_meaning.specs.Satisfied.{IsSatisfiedEverywhere}
use Rattle.lgc_report.specs.Reports.{plain_report}
use Rattle.lgc_report.specs.Valid.{IsValid}
use Rattle.lgc_top.specs.declared.status.Status.{Status}
use Rattle.lgc_top.specs.declared.status.Status.TheVariants.{Done, Refuted, BadSpec, BadInput, Rejected}
use Rattle.lgc_top.specs.Commands.{Command, Calculus, Verify, Prove, Check, Clauses, Tableaux, spec_of, command_of}
use Rattle.lgc_top.specs.Verify.{RulesGiven}
use Rattle.lgc_top.specs.Prove.{QueriesGiven}
use Rattle.lgc_top.specs.Check.{ReportGiven}
use Rattle.lgc_top.specs.Run.{Run}

-- no count of faults rose
pub record IsFaultless (run : Run) : Type 0 where
  pub files : Rose run.files.faults run.files_after.faults → ⊥
  pub out : Rose run.out.faults run.out_after.faults → ⊥
  pub err : Rose run.err.faults run.err_after.faults → ⊥

-- the files are told, and the file of this name has these bytes
abbrev pub Tells : FilesState → List ℕ → List ℕ → Type 0
Tells files file bytes = IsSomeAnd files.told (λ told. file_at told file ≡ Some bytes)

-- What a second file means by what it gives: a fault BadInput. What has no fault means Done where it passes, and else another status.
abbrev pub GivenMeans : {A : Type 0} → (A → Type 0) → Status → Result A InputFault → Status → Type 0
GivenMeans Passes failing (Err fault) status = status ≡ BadInput
GivenMeans Passes failing (Ok given) status = (Passes given × (status ≡ Done)) ⊎ ((Passes given → ⊥) × (status ≡ failing))

-- the same of the file of a name, where `Has` says which bytes a file has, and `Gives` what they give
abbrev pub InputMeans : {A : Type 0} → (List ℕ → List ℕ → Type 0) → List ℕ → (List ℕ → Result A InputFault → Type 0) → (A → Type 0) → Status → Status → Type 0
InputMeans {A} Has file Gives Passes failing status = (bytes : List ℕ) × (told : Result A InputFault) × Has file bytes × Gives bytes told × GivenMeans Passes failing told status

-- What a logic means for a command: rules pass where all of them are right, queries where every valuation satisfies all of them, and a report
-- where it is valid. The clauses of queries are told of any.
abbrev pub LogicMeans : (List ℕ → List ℕ → Type 0) → Command → Logic → Status → Type 0
LogicMeans Has (Calculus format file) logic status = status ≡ Done
LogicMeans Has (Verify file rules) logic status = InputMeans Has rules (RulesGiven logic) (λ given. All (IsRight logic) (map plain_rule given)) Rejected status
LogicMeans Has (Prove file queries) logic status = InputMeans Has queries (QueriesGiven logic) (All (IsSatisfiedEverywhere logic)) Refuted status
LogicMeans Has (Check file report) logic status = InputMeans Has report (ReportGiven logic) (λ given. IsValid logic (plain_report given)) Rejected status
LogicMeans Has (Clauses file queries) logic status = InputMeans Has queries (QueriesGiven logic) (λ given. Unit {0}) Done status
LogicMeans Has (Tableaux file queries) logic status = InputMeans Has queries (QueriesGiven logic) (All (IsSatisfiedEverywhere logic)) Refuted status

-- What the bytes of a specification mean: a fault BadSpec, and else what its logic means.
abbrev pub SpecMeans : (List ℕ → List ℕ → Type 0) → Command → Result Spec SpecFault → Status → Type 0
SpecMeans Has command (Err fault) status = status ≡ BadSpec
SpecMeans Has command (Ok spec) status = LogicMeans Has command (logic_of spec) status

-- What the files of a command mean.
abbrev pub CommandMeans : (List ℕ → List ℕ → Type 0) → Command → Status → Type 0
CommandMeans Has command status = (bytes : List ℕ) × (found : Result Spec SpecFault) × Has (spec_of command) bytes × BytesGive bytes found × SpecMeans Has command found status

-- the words are a command, and its files are told and mean this status
pub record Means (run : Run) (status : Status) : Type 0 where
  pub command : Command
  pub asked : command_of run.words ≡ Some command
  pub meant : CommandMeans (Tells run.files) command status
