-- What the types of a report's parts say of them: the ranges of numbers, and what is asked of sets, of sequents and of valuations. It
-- holds of each report that there is.
use Rattle.std.specs.Prelude.{◌<◌, ◌^◌, ℕ, All}
use Rattle.lgc_meaning.specs.Valuations.{IsEntries}
use Rattle.lgc_sequents.specs.Sequents.{IsSet, IsSequent}
use Rattle.lgc_sequents.specs.Lines.{PlainLine}
use Rattle.lgc_sequents.specs.declared.line.Reason.{Reason}
use Rattle.lgc_sequents.specs.declared.line.Reason.TheVariants.{Axiom, Pending, ByRule, Resolve}
use Rattle.lgc_report.specs.declared.report.Evidence.{Evidence}
use Rattle.lgc_report.specs.declared.report.Evidence.TheVariants.{Proved, Refuted, Unfinished}
use Rattle.lgc_report.specs.Reports.{PlainNumbered, PlainClaim, answer, holds, PlainReport}

-- the number of a rule or of a claim
abbrev pub IsNumber : ℕ → Type 0
IsNumber number = number < 2 ^ 32

-- the position of a line
abbrev pub IsLong : ℕ → Type 0
IsLong position = position < 2 ^ 64

-- the number of a rule has 32 bits, and its sets are sets of values below n
pub record IsWellFormedRule (n : ℕ) (numbered : PlainNumbered) : Type 0 where
  pub number : IsNumber numbered.number
  pub sign : IsSet n numbered.rule.sign
  pub clauses : All (λ sets. All (IsSet n) sets) numbered.rule.clauses

-- the numbers in a reason have 32 bits, and the positions 64
abbrev pub IsWellFormedReason : Reason → Type 0
IsWellFormedReason Axiom = Unit {0}
IsWellFormedReason Pending = Unit {0}
IsWellFormedReason (ByRule rule principal premises) = IsNumber rule × All (λ cited. IsLong cited.line) premises
IsWellFormedReason (Resolve f left right) = IsLong left × IsLong right

pub record IsWellFormedLine (n : ℕ) (line : PlainLine) : Type 0 where
  pub number : IsLong line.number
  pub sequent : IsSequent n line.sequent
  pub reason : IsWellFormedReason line.reason

abbrev pub IsWellFormedEvidence : Evidence → Type 0
IsWellFormedEvidence (Proved cited) = All IsLong cited
IsWellFormedEvidence (Refuted entries) = IsEntries entries
IsWellFormedEvidence (Unfinished cited) = All IsLong cited

abbrev pub IsWellFormedClaim : ℕ → PlainClaim → Type 0
IsWellFormedClaim n (answer number query evidence) = IsNumber number × IsWellFormedEvidence evidence
IsWellFormedClaim n (holds number sequent line) = IsNumber number × (IsSequent n sequent × IsLong line)

pub record IsWellFormed (n : ℕ) (report : PlainReport) : Type 0 where
  pub rules : All (IsWellFormedRule n) report.rules
  pub lines : All (IsWellFormedLine n) report.lines
  pub claims : All (IsWellFormedClaim n) report.claims
