-- Reports without the number of truth values in their types, and when a report is one of a logic.
use Rattle.std.specs.Prelude.{◌≢◌, ◌<◌, ◌≤◌, ℕ, List, [], ◌++◌, map, All}
use Rattle.std.specs.List.{flat_map}
use Rattle.lgc_values.specs.Logic.{Logic}
use Rattle.lgc_syntax.specs.declared.formula.Formula.{Formula}
use Rattle.lgc_syntax.specs.Fits as syntax
use Rattle.lgc_clauses.specs.Rules as clauses
use Rattle.lgc_clauses.specs.Rules.{PlainRule}
use Rattle.lgc_clauses.specs.Kinds.{plain_rule}
use Rattle.lgc_clauses.specs.declared.rule.Numbered.{Numbered}
use Rattle.lgc_meaning.specs.declared.query.Query.{Query}
use Rattle.lgc_meaning.specs.Queries as queries
use Rattle.lgc_meaning.specs.Queries.{FitsQuery}
use Rattle.lgc_goals.specs.Goals.{goal_count}
use Rattle.lgc_goals.specs.declared.TheConstants.{MOST_GOALS}
use Rattle.lgc_sequents.specs.Signed.{SignedFormula}
use Rattle.lgc_sequents.specs.Lines as lines
use Rattle.lgc_sequents.specs.Lines.{PlainLine, FitsLine}
use Rattle.lgc_report.specs.declared.report.Evidence.{Evidence}
use Rattle.lgc_report.specs.declared.report.Evidence.TheVariants.{Proved, Refuted, Unfinished}
use Rattle.lgc_report.specs.declared.report.Claim.{Claim}
use Rattle.lgc_report.specs.declared.report.Claim.TheVariants.{Answer, Holds}
use Rattle.lgc_report.specs.declared.report.Report.{Report}

-- ---- plain reports

-- a rule with the number that is written before it
pub record PlainNumbered : Type 0 where
  pub number : ℕ
  pub rule : PlainRule

-- a claim: the answer to a query, or that a sequent holds by a line
pub data PlainClaim : Type 0 where
  answer : (number : ℕ) → (query : Query) → (evidence : Evidence) → PlainClaim
  holds : (number : ℕ) → (sequent : List SignedFormula) → (line : ℕ) → PlainClaim

pub record PlainReport : Type 0 where
  pub rules : List PlainNumbered
  pub lines : List PlainLine
  pub claims : List PlainClaim

abbrev pub plain_numbered : {size : ℕ} → Numbered size → PlainNumbered
plain_numbered numbered = record { number = numbered.number; rule = plain_rule numbered.rule }

abbrev pub plain_claim : {size : ℕ} → Claim size → PlainClaim
plain_claim (Answer number query evidence) = answer number query evidence
plain_claim (Holds number sequent line) = holds number sequent line

abbrev pub plain_report : {size : ℕ} → Report size → PlainReport
plain_report report = record { rules = map plain_numbered report.rules; lines = report.lines; claims = map plain_claim report.claims }

abbrev pub number_of : PlainClaim → ℕ
number_of (answer number query evidence) = number
number_of (holds number sequent line) = number

-- ---- the formulas of a report

abbrev pub formulas_of_evidence : Evidence → List Formula
formulas_of_evidence (Proved cited) = []
formulas_of_evidence (Refuted entries) = map (λ entry. entry.0) entries
formulas_of_evidence (Unfinished cited) = []

abbrev pub formulas_of_claim : PlainClaim → List Formula
formulas_of_claim (answer number query evidence) = queries.formulas_of query ++ formulas_of_evidence evidence
formulas_of_claim (holds number sequent line) = map (λ item. item.formula) sequent

-- the formulas of the lines, and then those of the claims
abbrev pub formulas_of_report : PlainReport → List Formula
formulas_of_report report = flat_map lines.formulas_of report.lines ++ flat_map formulas_of_claim report.claims

-- ---- reports of a logic

-- the rule is one for this logic, and its sign has members
pub record FitsRule (logic : Logic) (rule : PlainRule) : Type 0 where
  pub fits : clauses.Fits logic rule
  pub signed : rule.sign ≢ []

-- a valuation has formulas of the logic and truth values
abbrev pub FitsEvidence : Logic → Evidence → Type 0
FitsEvidence logic (Proved cited) = Unit {0}
FitsEvidence logic (Refuted entries) = All (λ entry. syntax.Fits logic entry.0 × (entry.1 < logic.size)) entries
FitsEvidence logic (Unfinished cited) = Unit {0}

-- the answer is one for this logic, and its query hasn't too many goals
pub record FitsAnswer (logic : Logic) (query : Query) (evidence : Evidence) : Type 0 where
  pub asked : FitsQuery logic query
  pub few : goal_count logic.size query ≤ MOST_GOALS
  pub known : FitsEvidence logic evidence

-- the claim is one for this logic
abbrev pub FitsClaim : Logic → PlainClaim → Type 0
FitsClaim logic (answer number query evidence) = FitsAnswer logic query evidence
FitsClaim logic (holds number sequent line) = All (λ item. syntax.Fits logic item.formula) sequent

-- the report is one for this logic
pub record FitsReport (logic : Logic) (report : PlainReport) : Type 0 where
  pub rules : All (λ numbered. FitsRule logic numbered.rule) report.rules
  pub lines : All (FitsLine logic) report.lines
  pub claims : All (FitsClaim logic) report.claims
