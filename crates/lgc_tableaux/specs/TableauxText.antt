-- The text of the tableaux of queries.
use Rattle.std.specs.Prelude.{◌≡◌, ◌↔◌, ℕ, ◌+◌, Bool, IsTrue, List, [], ◌∷◌, ◌++◌, All, codes}
use Rattle.std.specs.List.{AllZip}
use Rattle.std.specs.Fmt.{decimal}
use Rattle.lgc_values.specs.Logic.{Logic}
use Rattle.lgc_clauses.specs.Rules.{OperatorRule}
use Rattle.lgc_sequents.specs.Signed.{SignedFormula}
use Rattle.lgc_meaning.specs.declared.query.Query.{Query}
use Rattle.lgc_goals.specs.Goals.{goals_of}
use Rattle.lgc_calculus.specs.RuleBook.{IsRightBook}
use Rattle.lgc_meaning.specs.Satisfied.{IsSatisfiedEverywhere}
use Rattle.lgc_tableau_text.specs.TableauText.{items_text, entries_text, tableau_text}
use Rattle.lgc_tableau_build.specs.declared.built.Built.{Built}
use Rattle.lgc_tableau_build.specs.declared.built.Built.TheVariants.{Closed, Unclosed}
use Rattle.lgc_tableau_build.specs.Built.{IsBuilt}

-- ---- the text

-- a goal by the numbers of its query and among the query's goals, as `goal 1.2: p^{t}`
unfoldable pub goal_text : Logic → ℕ → ℕ → List SignedFormula → List ℕ
goal_text logic query number goal = codes "goal " ++ decimal query ++ codes "." ++ decimal number ++ codes ": " ++ items_text logic goal

-- What is built for a goal, behind its items: a tableau on further lines, or ` unclosed at {p: u}` where a valuation makes the goal false.
abbrev pub built_text : {n : ℕ} → Logic → Built n → List ℕ
built_text logic (Closed t) = codes "\n" ++ tableau_text logic t
built_text logic (Unclosed entries) = codes " unclosed at " ++ entries_text logic entries ++ codes "\n"

-- the goals of a query, of which the first has this number, with what is built for each
abbrev pub goals_text : {n : ℕ} → Logic → ℕ → ℕ → List (List SignedFormula) → List (Built n) → List ℕ
goals_text logic query number [] built = []
goals_text logic query number (goal ∷ goals) [] = []
goals_text logic query number (goal ∷ goals) (one ∷ built) = goal_text logic query number goal ++ built_text logic one ++ goals_text logic query (number + 1) goals built

-- queries, of which the first has this number, with what is built for the goals of each
abbrev pub queries_text : {n : ℕ} → Logic → ℕ → List Query → List (List (Built n)) → List ℕ
queries_text logic number [] built = []
queries_text logic number (query ∷ queries) [] = []
queries_text logic number (query ∷ queries) (own ∷ built) = goals_text logic number 1 (goals_of logic.size query) own ++ queries_text logic (number + 1) queries built

-- ---- what it says

-- what is built for the goals of a query by some rules is right
abbrev pub AreBuilt : {n : ℕ} → Logic → List OperatorRule → Query → List (Built n) → Type 0
AreBuilt logic rules query built = AllZip (IsBuilt logic rules) (goals_of logic.size query) built

-- For the goals of each query, in order, tableaux or valuations are built by the rules of one right book, and this is their text.
-- `all_closed` tells whether every valuation satisfies every query.
pub record IsTableauxText (logic : Logic) (asked : List Query) (all_closed : Bool) (text : List ℕ) : Type 0 where
  pub rules : List OperatorRule
  pub right : IsRightBook logic rules
  pub built : List (List (Built logic.size))
  pub each : AllZip (AreBuilt logic rules) asked built
  pub printed : text ≡ queries_text logic 1 asked built
  pub decided : IsTrue all_closed ↔ All (IsSatisfiedEverywhere logic) asked
