-- What holds in the finite structures of a logic, and when a report is sound.
use Rattle.std.specs.Prelude.{◌≡◌, ℕ, true, List, [], All, Some}
use Rattle.lgc_values.specs.Logic.{Logic}
use Rattle.lgc_syntax.specs.Structures.{Structure, IsStructure, IsAssignment, value_in}
use Rattle.lgc_meaning.specs.declared.query.Query.{Query}
use Rattle.lgc_meaning.specs.Queries.{satisfies}
use Rattle.lgc_sequents.specs.Signed.{SignedFormula}
use Rattle.lgc_sequents.specs.Sequents.{is_true_at}
use Rattle.lgc_sequents.specs.Lines.{PlainLine, at_position}
use Rattle.lgc_sequents.specs.Rests.{IsPendingBased}
use Rattle.lgc_report.specs.declared.report.Evidence.{Evidence}
use Rattle.lgc_report.specs.declared.report.Evidence.TheVariants.{Proved, Refuted, Unfinished}
use Rattle.lgc_report.specs.Reports.{PlainClaim, answer, holds, PlainReport}

-- ---- structures

-- a sequent holds in a structure where it is true under every assignment
abbrev pub HoldsIn : Logic → Structure → List SignedFormula → Type 0
HoldsIn logic M sequent = (s : List ℕ → ℕ) → IsAssignment M s → is_true_at (λ f. value_in logic M s f []) sequent ≡ true

-- a query is satisfied in a structure where it is under every assignment
abbrev pub IsSatisfiedIn : Logic → Structure → Query → Type 0
IsSatisfiedIn logic M query = (s : List ℕ → ℕ) → IsAssignment M s → satisfies logic.size (λ f. value_in logic M s f []) query ≡ true

-- the sequent holds in every structure of the logic
abbrev pub HoldsInStructures : Logic → List SignedFormula → Type 0
HoldsInStructures logic sequent = (M : Structure) → IsStructure logic M → HoldsIn logic M sequent

-- the query is satisfied in every structure of the logic
abbrev pub IsSatisfiedInStructures : Logic → Query → Type 0
IsSatisfiedInStructures logic query = (M : Structure) → IsStructure logic M → IsSatisfiedIn logic M query

-- ---- reports

-- what a claim says of structures: a query that is called proved is satisfied in them; refuted and unfinished ones need not be
abbrev pub AnswerHolds : Logic → Query → Evidence → Type 0
AnswerHolds logic query (Proved cited) = IsSatisfiedInStructures logic query
AnswerHolds logic query (Refuted entries) = Unit {0}
AnswerHolds logic query (Unfinished cited) = Unit {0}

-- a sequent that is claimed holds in them
abbrev pub ClaimHolds : Logic → PlainClaim → Type 0
ClaimHolds logic (answer number query evidence) = AnswerHolds logic query evidence
ClaimHolds logic (holds number sequent line) = HoldsInStructures logic sequent

-- A report is sound: each line that doesn't rest on a pending one holds in every structure of the logic, and so does each claim.
pub record IsSound (logic : Logic) (report : PlainReport) : Type 0 where
  pub lines : (position : ℕ) (line : PlainLine) → at_position report.lines position ≡ Some line → (IsPendingBased report.lines position → ⊥) → HoldsInStructures logic line.sequent
  pub claims : All (ClaimHolds logic) report.claims
