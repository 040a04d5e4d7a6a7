-- The items of which clauses are told: those of all goals of all queries, in order.
use Rattle.std.specs.Prelude.{ℕ, ◌+◌, List, [], ◌∷◌, ◌++◌}
use Rattle.lgc_values.specs.Logic.{Logic}
use Rattle.lgc_syntax.specs.declared.formula.Formula.{Formula}
use Rattle.lgc_sequents.specs.Signed.{SignedFormula}
use Rattle.lgc_meaning.specs.declared.query.Query.{Query}
use Rattle.lgc_goals.specs.Goals.{complement, goals_of}

-- The numbers of a query, of a goal of it and of an item of the goal, each from 1, and the item's formula with the complement of its sign: under
-- a valuation the goal is false exactly where each of its formulas takes a value in this complement.
pub record GoalItem : Type 0 where
  pub query : ℕ
  pub goal : ℕ
  pub item : ℕ
  pub formula : Formula
  pub sign : List ℕ

-- the items of a goal, of which the first has this number
abbrev pub items_of_goal : Logic → ℕ → ℕ → ℕ → List SignedFormula → List GoalItem
items_of_goal logic query goal number [] = []
items_of_goal logic query goal number (item ∷ items) = record { query = query; goal = goal; item = number; formula = item.formula; sign = complement logic.size item.sign } ∷ items_of_goal logic query goal (number + 1) items

-- those of goals, of which the first has this number
abbrev pub items_of_goals : Logic → ℕ → ℕ → List (List SignedFormula) → List GoalItem
items_of_goals logic query number [] = []
items_of_goals logic query number (goal ∷ goals) = items_of_goal logic query number 1 goal ++ items_of_goals logic query (number + 1) goals

-- those of queries, of which the first has this number
abbrev pub items_of_queries : Logic → ℕ → List Query → List GoalItem
items_of_queries logic number [] = []
items_of_queries logic number (query ∷ queries) = items_of_goals logic number 1 (goals_of logic.size query) ++ items_of_queries logic (number + 1) queries
