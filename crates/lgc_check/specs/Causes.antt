-- What is found of an item of a report: its first part that fails, by the cause that it makes, or nothing.
use Rattle.std.specs.Prelude.{◌≡◌, ℕ, zero, suc, true, List, [], take, All, Some, None}
use Rattle.std.specs.List.{AllZip, Any}
use Rattle.lgc_values.specs.Logic.{Logic}
use Rattle.lgc_clauses.specs.Rules.{PlainRule}
use Rattle.lgc_clauses.specs.Exactness.{IsExact, IsFirstDifference}
use Rattle.lgc_meaning.specs.declared.query.Query.{Query}
use Rattle.lgc_goals.specs.Goals.{goals_of}
use Rattle.lgc_sequents.specs.Signed.{SignedFormula}
use Rattle.lgc_sequents.specs.Sequents.{is_included}
use Rattle.lgc_sequents.specs.Lines.{PlainLine, IsPosition, sequent_at}
use Rattle.lgc_sequents.specs.Rests.{IsPendingBased}
use Rattle.lgc_steps.specs.declared.fault.StepFault.{StepFault}
use Rattle.lgc_steps.specs.declared.fault.StepFault.TheVariants as fault
use Rattle.lgc_steps.specs.Findings.{Finding, nothing, asks, found_first}
use Rattle.lgc_steps.specs.StepFaults.{found_of_step}
use Rattle.lgc_report.specs.declared.report.Evidence.{Evidence}
use Rattle.lgc_report.specs.declared.report.Evidence.TheVariants.{Proved, Refuted, Unfinished}
use Rattle.lgc_report.specs.Reports.{PlainNumbered, PlainClaim, answer, holds, number_of}
use Rattle.lgc_report.specs.Valid.{IsRefutation}
use Rattle.lgc_check.specs.declared.verdict.Cause.{Cause}
use Rattle.lgc_check.specs.declared.verdict.Cause.TheVariants as cause

-- of the number before an item that stands at a position
abbrev pub found_of_number : ℕ → ℕ → Finding Cause
found_of_number position number = asks (number ≡ position) cause.Misnumbered nothing

-- ---- rules

-- of a rule and its table: the first row at which they differ
abbrev pub found_of_table : Logic → PlainRule → Finding ℕ
found_of_table logic rule None = IsExact logic rule
found_of_table logic rule (Some row) = IsFirstDifference logic rule row

-- of the rule at a position
abbrev pub found_of_rule : Logic → ℕ → PlainNumbered → Finding Cause
found_of_rule logic position numbered = found_first (found_of_table logic numbered.rule) cause.Inexact (found_of_number position numbered.number)

-- ---- lines

abbrev pub cause_of_step : StepFault → Cause
cause_of_step fault.UnknownRule = cause.UnknownRule
cause_of_step fault.NotEarlier = cause.UnknownLine
cause_of_step fault.Premises = cause.Premises
cause_of_step fault.Sign = cause.Sign
cause_of_step fault.Foreign = cause.Foreign
cause_of_step fault.Eigenvariable = cause.Eigenvariable
cause_of_step fault.Incomplete = cause.Incomplete

-- what stands before a position
abbrev pub before_position : {X : Type 0} → List X → ℕ → List X
before_position xs zero = []
before_position xs (suc k) = take k xs

-- of the line at a position, in a logic of n truth values
abbrev pub found_of_line : ℕ → List PlainRule → List PlainLine → ℕ → PlainLine → Finding Cause
found_of_line n rules lines position line = found_first (found_of_step n rules (before_position lines position) line) cause_of_step (found_of_number position line.number)

-- ---- claims

-- the line at a position is included in a sequent
abbrev pub IsIncluded : List PlainLine → ℕ → List SignedFormula → Type 0
IsIncluded lines position sequent = is_included (sequent_at lines position) sequent ≡ true

-- of lines that are cited for the goals of a query
abbrev pub found_of_goals : ℕ → List PlainLine → Query → List ℕ → Finding Cause
found_of_goals n lines query cited =
    asks (All (IsPosition lines) cited) cause.UnknownLine
    (asks (AllZip (IsIncluded lines) cited (goals_of n query)) cause.NotIncluded
    nothing)

-- of an answer to a query
abbrev pub found_of_answer : Logic → List PlainLine → Query → Evidence → Finding Cause
found_of_answer logic lines query (Proved cited) = found_of_goals logic.size lines query cited
found_of_answer logic lines query (Refuted entries) = asks (IsRefutation logic query entries) cause.NotRefuted nothing
found_of_answer logic lines query (Unfinished cited) = found_of_goals logic.size lines query cited

-- of what a claim says, whatever its number is and whichever lines are pending
abbrev pub found_of_evidence : Logic → List PlainLine → PlainClaim → Finding Cause
found_of_evidence logic lines (answer number query evidence) = found_of_answer logic lines query evidence
found_of_evidence logic lines (holds number sequent line) =
    asks (IsPosition lines line) cause.UnknownLine
    (asks (IsIncluded lines line sequent) cause.NotIncluded
    nothing)

-- some cited line of an unfinished proof rests on a pending one, and none of a proof does
abbrev pub IsSettledBy : List PlainLine → Evidence → Type 0
IsSettledBy lines (Proved cited) = All (λ position. IsPendingBased lines position → ⊥) cited
IsSettledBy lines (Refuted entries) = Unit {0}
IsSettledBy lines (Unfinished cited) = Any (IsPendingBased lines) cited

abbrev pub IsSettled : List PlainLine → PlainClaim → Type 0
IsSettled lines (answer number query evidence) = IsSettledBy lines evidence
IsSettled lines (holds number sequent line) = IsPendingBased lines line → ⊥

-- of the claim at a position
abbrev pub found_of_claim : Logic → List PlainLine → ℕ → PlainClaim → Finding Cause
found_of_claim logic lines position claim =
    found_first (found_of_evidence logic lines claim) (λ found. found)
    (asks (number_of claim ≡ position) cause.Misnumbered
    (asks (IsSettled lines claim) cause.Pending
    nothing))
