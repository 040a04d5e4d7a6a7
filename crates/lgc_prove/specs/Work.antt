-- What is true while queries are answered: of the rules and the lines so far, and of the claims.
use Rattle.std.specs.Prelude.{◌≡◌, ℕ, List, [], ◌∷◌, ◌++◌, map, All, slice_get, Some}
use Rattle.std.specs.List.{AllZip, flat_map}
use Rattle.lgc_values.specs.Logic.{Logic}
use Rattle.lgc_clauses.specs.Rules.{OperatorRule, of_operator}
use Rattle.lgc_calculus.specs.RuleBook.{IsRightBook}
use Rattle.lgc_syntax.specs.declared.formula.Formula.{Formula}
use Rattle.lgc_syntax.specs.Values.{value}
use Rattle.lgc_meaning.specs.declared.query.Query.{Query}
use Rattle.lgc_meaning.specs.Valuations.{atom_places, each_once}
use Rattle.lgc_meaning.specs.Queries.{formulas_of}
use Rattle.lgc_goals.specs.Goals.{goals_of}
use Rattle.lgc_sequents.specs.Signed.{SignedFormula}
use Rattle.lgc_sequents.specs.Sequents.{IsSequent}
use Rattle.lgc_sequents.specs.Lines as lines
use Rattle.lgc_sequents.specs.Lines.{PlainLine}
use Rattle.lgc_sequents.specs.Steps.{AreSteps}
use Rattle.lgc_report.specs.declared.report.Evidence.{Evidence}
use Rattle.lgc_report.specs.Reports.{PlainClaim, number_of, FitsEvidence, FitsClaim}
use Rattle.lgc_report.specs.Valid.{IsIncludedAt, IsEvidence, IsValidClaim, ArePositions}
use Rattle.lgc_sequents.specs.Everywhere.{IsTrueEverywhere}
use Rattle.lgc_proofs.specs.declared.found.Found.{Found}
use Rattle.lgc_proofs.specs.Reasons.{IsPlainReason}
use Rattle.lgc_proofs.specs.Found.{IsFound}
use Rattle.lgc_prove.specs.Answers.{Decides, IsAnswerTo, IsPartOf}

-- ---- one query

-- what is found of the goal at a place is right
pub record IsFoundAt (logic : Logic) (lines : List PlainLine) (query : Query) (place : ℕ) (found : Found) : Type 0 where
  pub goal : List SignedFormula
  pub is : slice_get (goals_of logic.size query) place ≡ Some goal
  pub sequent : IsSequent logic.size goal
  pub right : IsFound logic lines goal found

-- a line proves a goal: it is included in the goal, which is true under every valuation
pub record Proves (logic : Logic) (lines : List PlainLine) (position : ℕ) (goal : List SignedFormula) : Type 0 where
  pub line : IsIncludedAt lines position goal
  pub holds : IsTrueEverywhere logic goal

-- the atoms of a query with their values under a valuation, in the order of their first places
abbrev pub atoms_with_values : Logic → (Formula → ℕ) → Query → List (Formula × ℕ)
atoms_with_values logic v query = map (λ atom. (atom, value logic v atom)) (each_once (flat_map atom_places (formulas_of query)))

-- the evidence follows from the lines, and decides the query
pub record IsAnsweredBy (logic : Logic) (lines : List PlainLine) (query : Query) (evidence : Evidence) : Type 0 where
  pub known : FitsEvidence logic evidence
  pub follows : IsEvidence logic lines query evidence
  pub decides : Decides logic query evidence

-- ---- the lines

-- the rules are right, and the lines are axioms and steps by them
pub record AreLinesBy (logic : Logic) (rules : List OperatorRule) (lines : List PlainLine) : Type 0 where
  pub right : IsRightBook logic rules
  pub steps : AreSteps logic.size (map of_operator rules) [] lines
  pub plain : All (λ line. IsPlainReason line.reason) lines

-- the lines have subformulas of some queries alone
abbrev pub ArePartsOf : List Query → List PlainLine → Type 0
ArePartsOf asked derived = All (λ line. All (IsPartOf asked) (lines.formulas_of line)) derived

-- lines were appended for a query
pub record AreAppendedFor (query : Query) (old new : List PlainLine) : Type 0 where
  pub more : List PlainLine
  pub is : new ≡ old ++ more
  pub parts : ArePartsOf (query ∷ []) more

-- ---- the claims

-- numbered claims that follow from the lines and answer queries, in order
pub record AreAnswers (logic : Logic) (rules : List OperatorRule) (asked : List Query) (lines : List PlainLine) (claims : List PlainClaim) : Type 0 where
  pub lines_by : AreLinesBy logic rules lines
  pub parts : ArePartsOf asked lines
  pub numbers : ArePositions (map number_of claims)
  pub fit : All (FitsClaim logic) claims
  pub follow : All (IsValidClaim logic lines) claims
  pub answers : AllZip (IsAnswerTo logic) asked claims
