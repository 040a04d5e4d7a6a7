-- When a report answers queries.
use Rattle.std.specs.Prelude.{◌≡◌, List, length, All, AllPairs}
use Rattle.std.specs.List.{Any, AllZip}
use Rattle.lgc_values.specs.Logic.{Logic}
use Rattle.lgc_clauses.specs.Irredundance.{IsIrredundant}
use Rattle.lgc_syntax.specs.declared.formula.Formula.{Formula}
use Rattle.lgc_syntax.specs.Subformulas.{IsSubformula}
use Rattle.lgc_meaning.specs.declared.query.Query.{Query}
use Rattle.lgc_meaning.specs.Queries as queries
use Rattle.lgc_meaning.specs.Satisfied.{IsSatisfiedEverywhere}
use Rattle.lgc_sequents.specs.Lines as lines
use Rattle.lgc_report.specs.declared.report.Evidence.{Evidence}
use Rattle.lgc_report.specs.declared.report.Evidence.TheVariants.{Proved, Refuted, Unfinished}
use Rattle.lgc_report.specs.Reports.{PlainClaim, answer, holds, PlainReport, FitsReport}
use Rattle.lgc_report.specs.Valid.{IsValid}
use Rattle.lgc_proofs.specs.Alike.{AreAlike}
use Rattle.lgc_proofs.specs.Reasons.{IsPlainReason}
use Rattle.lgc_prove.specs.ByUse.{AreByUse}

-- it is proved where every valuation satisfies it, and else refuted
abbrev pub Decides : Logic → Query → Evidence → Type 0
Decides logic query (Proved cited) = IsSatisfiedEverywhere logic query
Decides logic query (Refuted entries) = IsSatisfiedEverywhere logic query → ⊥
Decides logic query (Unfinished cited) = ⊥

-- a claim is the answer to a query
abbrev pub IsAnswerTo : Logic → Query → PlainClaim → Type 0
IsAnswerTo logic query (answer number asked evidence) = (asked ≡ query) × Decides logic query evidence
IsAnswerTo logic query (holds number sequent line) = ⊥

-- a formula is a subformula of one of some queries
abbrev pub IsPartOf : List Query → Formula → Type 0
IsPartOf asked f = Any (λ query. Any (λ g. IsSubformula f g) (queries.formulas_of query)) asked

-- A report answers queries: it is valid, and its claims are their answers, in order. Its rules are irredundant and numbered in the order of
-- their first use. Its lines are axioms or by rules, they have subformulas of the queries alone, and no two say the same.
pub record AnswersQueries (logic : Logic) (asked : List Query) (report : PlainReport) : Type 0 where
  pub fits : FitsReport logic report
  pub valid : IsValid logic report
  pub claims : AllZip (IsAnswerTo logic) asked report.claims
  pub irredundant : All (λ numbered. IsIrredundant logic numbered.rule) report.rules
  pub by_use : AreByUse (length report.rules) report.lines
  pub plain : All (λ line. IsPlainReason line.reason) report.lines
  pub parts : All (λ line. All (IsPartOf asked) (lines.formulas_of line)) report.lines
  pub differ : AllPairs (λ a b. AreAlike a.sequent b.sequent → ⊥) report.lines
