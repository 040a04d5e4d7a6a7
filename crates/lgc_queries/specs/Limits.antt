-- What is true of each query that is read.
use Rattle.std.specs.Prelude.{◌≡◌, ◌≢◌, ◌≤◌, ℕ, false, [], All}
use Rattle.std.specs.List.{sum_by}
use Rattle.lgc_values.specs.Logic.{Logic}
use Rattle.lgc_syntax.specs.Sizes.{nodes, depth}
use Rattle.lgc_meaning.specs.declared.query.Query.{Query}
use Rattle.lgc_meaning.specs.declared.query.Query.TheVariants.{Mixed, Equation, Quasi}
use Rattle.lgc_meaning.specs.Queries.{formulas_of, FitsQuery, IsPropositional}
use Rattle.lgc_formulas.specs.declared.formula.TheConstants.{MOST_DEPTH, MOST_NODES}
use Rattle.lgc_formulas.specs.Setting.{Setting}
use Rattle.lgc_goals.specs.declared.TheConstants.{MOST_GOALS}
use Rattle.lgc_goals.specs.Goals.{goal_count}
use Rattle.lgc_queries.specs.QueryGrammar.{file_setting}

-- a mixed entailment has a conclusion
abbrev pub HasConclusion : Query → Type 0
HasConclusion (Mixed given wanted premises conclusions) = conclusions ≢ []
HasConclusion (Equation pair) = Unit {0}
HasConclusion (Quasi premises conclusion) = Unit {0}

-- A query that is read against a setting where `many` nodes are left: it is one for the logic, its formulas keep the limits, and they have
-- no quantifier where none may stand.
pub record IsQueryFor (s : Setting) (many : ℕ) (query : Query) : Type 0 where
  pub fits : FitsQuery s.logic query
  pub concludes : HasConclusion query
  pub shallow : All (λ f. depth f ≤ MOST_DEPTH) (formulas_of query)
  pub small : sum_by nodes (formulas_of query) ≤ many
  pub propositional : s.quantified ≡ false → IsPropositional query

-- A query of a query file.
pub record IsFileQuery (logic : Logic) (query : Query) : Type 0 where
  pub query_for : IsQueryFor (file_setting logic) MOST_NODES query
  pub goals : goal_count logic.size query ≤ MOST_GOALS
