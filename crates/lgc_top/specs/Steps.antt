-- What the private functions answer on the way to an answer.
use Rattle.std.specs.Prelude.{◌≡◌, ℕ, Bool, if◌then◌else◌, List, Option, Result, MatchResult}
use Rattle.lgc_io.specs.Files.{FilesState, FailsAt}
use Rattle.lgc_top.specs.declared.command.Command.{Command}
use Rattle.lgc_top.specs.declared.command.Command.TheVariants.{Calculus, OnBoth}
use Rattle.lgc_top.specs.declared.command.Work.{Work}
use Rattle.lgc_top.specs.declared.command.Work.TheVariants.{Verify, Prove, Check, Clauses, Tableaux}
use Rattle.lgc_rules.specs.declared.file.TheConstants as rules
use Rattle.lgc_queries.specs.declared.TheConstants as queries
use Rattle.lgc_report_reader.specs.declared.report.TheConstants as report
use Rattle.lgc_top.specs.declared.status.Status.{Status}
use Rattle.lgc_top.specs.declared.status.Status.TheVariants.{Done, Refuted, Rejected, ReadFault}
use Rattle.lgc_top.specs.declared.answer.Answer.{Answer}
use Rattle.lgc_top.specs.declared.answer.Stop.{Stop}
use Rattle.lgc_top.specs.declared.answer.Stop.TheVariants.{Refused, Memory}
use Rattle.lgc_top.specs.FaultLine.{read_line}
use Rattle.lgc_top.specs.Commands as words
use Rattle.lgc_top.specs.Run.{WordsAnswer}

-- the command for some work on two files
abbrev pub on_both : Work → List ℕ → List ℕ → words.Command
on_both Verify spec rules = words.Verify spec rules
on_both Prove spec queries = words.Prove spec queries
on_both Check spec report = words.Check spec report
on_both Clauses spec queries = words.Clauses spec queries
on_both Tableaux spec queries = words.Tableaux spec queries

-- the greatest length of the second file
abbrev pub limit_of : Work → ℕ
limit_of Verify = rules.LONGEST_FILE
limit_of Prove = queries.LONGEST_FILE
limit_of Check = report.LONGEST_REPORT
limit_of Clauses = queries.LONGEST_FILE
limit_of Tableaux = queries.LONGEST_FILE

-- the command that a value stands for
abbrev pub asked : Command → words.Command
asked (Calculus format spec) = words.Calculus format spec.now
asked (OnBoth work spec input) = on_both work spec.now input.now

-- the bytes that are put, under this status, answer the words
abbrev pub IsAnswer : Option words.Command → FilesState → FilesState → Answer → Type 0
IsAnswer found files files_after answer = WordsAnswer found files files_after answer.status answer.bytes.items

-- a refusal answers the words
abbrev pub Stops : Option words.Command → FilesState → FilesState → Stop → Type 0
Stops found files files_after (Refused answer) = IsAnswer found files files_after answer
Stops found files files_after Memory = Unit {0}

-- a function answers the words, or it is refused with their answer
abbrev pub Answered : Option words.Command → FilesState → FilesState → Result Answer Stop → Type 0
Answered found files files_after result = MatchResult result (IsAnswer found files files_after) (Stops found files files_after)

-- a refusal with this status and this line, unless memory ran out
abbrev pub Refuses : Status → List ℕ → Stop → Type 0
Refuses status line (Refused answer) = (answer.status ≡ status) × (answer.bytes.items ≡ line)
Refuses status line Memory = Unit {0}

-- the read of a file failed, and the refusal tells it
abbrev pub ReadStops : FilesState → FilesState → List ℕ → Stop → Type 0
ReadStops files files_after file (Refused answer) = FailsAt files files_after file × (answer.status ≡ ReadFault) × (answer.bytes.items ≡ read_line file)
ReadStops files files_after file Memory = Unit {0}

-- the status of verdicts on rules, by whether all of them are right, and of the verdict on a report, by whether it is accepted
abbrev pub verdict_status : Bool → Status
verdict_status right = if right then Done else Rejected

-- the status of answers to queries, by whether every valuation satisfies all of them
abbrev pub answer_status : Bool → Status
answer_status all_hold = if all_hold then Done else Refuted
