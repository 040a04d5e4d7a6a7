-- When a report is valid: its rules are exact, its lines are steps, and its claims follow from the lines that they cite.
use Rattle.std.specs.Prelude.{◌≡◌, ◌≢◌, ℕ, true, false, List, [], length, map, All, AllPairs, Any}
use Rattle.std.specs.List.{AllZip, list_any, flat_map, range_with_len}
use Rattle.lgc_values.specs.Logic.{Logic}
use Rattle.lgc_syntax.specs.declared.formula.Formula.{Formula}
use Rattle.lgc_syntax.specs.Equality.{same_formula}
use Rattle.lgc_syntax.specs.Values.{listed, value}
use Rattle.lgc_clauses.specs.Exactness.{IsExact}
use Rattle.lgc_meaning.specs.declared.query.Query.{Query}
use Rattle.lgc_meaning.specs.Valuations.{atom_places}
use Rattle.lgc_meaning.specs.Queries.{formulas_of, IsPropositional, satisfies}
use Rattle.lgc_goals.specs.Goals.{goals_of}
use Rattle.lgc_sequents.specs.Signed.{SignedFormula}
use Rattle.lgc_sequents.specs.Sequents.{is_included}
use Rattle.lgc_sequents.specs.Lines.{PlainLine, IsPosition, sequent_at}
use Rattle.lgc_sequents.specs.Steps.{AreSteps}
use Rattle.lgc_sequents.specs.Rests.{IsPendingBased}
use Rattle.lgc_report.specs.declared.report.Evidence.{Evidence}
use Rattle.lgc_report.specs.declared.report.Evidence.TheVariants.{Proved, Refuted, Unfinished}
use Rattle.lgc_report.specs.Reports.{PlainClaim, answer, holds, number_of, PlainReport}

-- ---- claims

-- there is a line at the position, and it is included in a sequent
pub record IsIncludedAt (lines : List PlainLine) (position : ℕ) (sequent : List SignedFormula) : Type 0 where
  pub stands : IsPosition lines position
  pub included : is_included (sequent_at lines position) sequent ≡ true

-- a line is included in each goal of a query, in order
abbrev pub CitesGoals : ℕ → List PlainLine → Query → List ℕ → Type 0
CitesGoals n lines query cited = AllZip (IsIncludedAt lines) cited (goals_of n query)

-- each goal of the query includes a line that doesn't rest on a pending one
pub record IsProof (n : ℕ) (lines : List PlainLine) (query : Query) (cited : List ℕ) : Type 0 where
  pub goals : CitesGoals n lines query cited
  pub settled : All (λ position. IsPendingBased lines position → ⊥) cited

-- each goal of the query includes a line, and some of these rests on a pending one
pub record IsUnfinishedProof (n : ℕ) (lines : List PlainLine) (query : Query) (cited : List ℕ) : Type 0 where
  pub goals : CitesGoals n lines query cited
  pub pending : Any (IsPendingBased lines) cited

-- the atoms of a query are listed, each once
pub record ListsAtoms (query : Query) (entries : List (Formula × ℕ)) : Type 0 where
  pub each : (atom : Formula) → list_any (λ entry. same_formula atom entry.0) entries ≡ list_any (same_formula atom) (flat_map atom_places (formulas_of query))
  pub once : AllPairs (λ a b. a.0 ≢ b.0) entries

-- a valuation that lists the atoms of a query without quantifiers, and doesn't satisfy it
pub record IsRefutation (logic : Logic) (query : Query) (entries : List (Formula × ℕ)) : Type 0 where
  pub propositional : IsPropositional query
  pub atoms : ListsAtoms query entries
  pub refutes : satisfies logic.size (value logic (listed entries)) query ≡ false

abbrev pub IsEvidence : Logic → List PlainLine → Query → Evidence → Type 0
IsEvidence logic lines query (Proved cited) = IsProof logic.size lines query cited
IsEvidence logic lines query (Refuted entries) = IsRefutation logic query entries
IsEvidence logic lines query (Unfinished cited) = IsUnfinishedProof logic.size lines query cited

-- a sequent includes a line that doesn't rest on a pending one
pub record HoldsBy (lines : List PlainLine) (sequent : List SignedFormula) (position : ℕ) : Type 0 where
  pub included : IsIncludedAt lines position sequent
  pub settled : IsPendingBased lines position → ⊥

-- a claim follows from the lines
abbrev pub IsValidClaim : Logic → List PlainLine → PlainClaim → Type 0
IsValidClaim logic lines (answer number query evidence) = IsEvidence logic lines query evidence
IsValidClaim logic lines (holds number sequent line) = HoldsBy lines sequent line

-- ---- reports

-- the numbers are positions: 1, 2 and so on
abbrev pub ArePositions : List ℕ → Type 0
ArePositions numbers = numbers ≡ range_with_len 1 (length numbers)

-- a report that is valid in a logic
pub record IsValid (logic : Logic) (report : PlainReport) : Type 0 where
  pub rule_numbers : ArePositions (map (λ numbered. numbered.number) report.rules)
  pub line_numbers : ArePositions (map (λ line. line.number) report.lines)
  pub claim_numbers : ArePositions (map number_of report.claims)
  pub exact : All (λ numbered. IsExact logic numbered.rule) report.rules
  pub steps : AreSteps logic.size (map (λ numbered. numbered.rule) report.rules) [] report.lines
  pub claims : All (IsValidClaim logic report.lines) report.claims
