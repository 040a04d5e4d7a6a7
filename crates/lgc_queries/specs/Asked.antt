-- What is asked of the queries that the commands answer.
use Rattle.std.specs.Prelude.{◌≤◌}
use Rattle.lgc_values.specs.Logic.{Logic}
use Rattle.lgc_meaning.specs.declared.query.Query.{Query}
use Rattle.lgc_meaning.specs.Queries.{IsPropositional}
use Rattle.lgc_formulas.specs.declared.formula.TheConstants.{MOST_NODES}
use Rattle.lgc_formulas.specs.FormulaTexts.{text_setting}
use Rattle.lgc_goals.specs.declared.TheConstants.{MOST_GOALS}
use Rattle.lgc_goals.specs.Goals.{goal_count}
use Rattle.lgc_queries.specs.WritableQueries.{IsWritableQuery}

-- what is asked of a query that is to be answered: it can be written, and has no quantifier and not too many goals
pub record IsAsked (logic : Logic) (query : Query) : Type 0 where
  pub writable : IsWritableQuery (text_setting logic) MOST_NODES query
  pub propositional : IsPropositional query
  pub few : goal_count logic.size query ≤ MOST_GOALS
