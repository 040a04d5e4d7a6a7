-- Words of private calls: what is true of the text while tableaux are built.
use Rattle.std.specs.Prelude.{◌≡◌, ◌<◌, ◌^◌, ℕ, ◌+◌, Bool, true, false, List, ◌++◌, All, slice_get, Some}
use Rattle.std.specs.List.{AllZip, list_all}
use Rattle.lgc_values.specs.Logic.{Logic}
use Rattle.lgc_clauses.specs.Rules.{OperatorRule}
use Rattle.lgc_syntax.specs.Sizes.{depth}
use Rattle.lgc_sequents.specs.Signed.{SignedFormula}
use Rattle.lgc_meaning.specs.declared.query.Query.{Query}
use Rattle.lgc_goals.specs.Goals.{goals_of}
use Rattle.lgc_tableau_text.specs.TableauText.{formulas_of}
use Rattle.lgc_tableau_build.specs.declared.built.Built.{Built}
use Rattle.lgc_tableau_build.specs.declared.built.Built.TheVariants.{Closed, Unclosed}
use Rattle.lgc_tableau_build.specs.Built.{IsBuilt}
use Rattle.lgc_tableaux.specs.TableauxText.{goal_text, built_text, goals_text, queries_text, AreBuilt}

-- whether a tableau is built
abbrev pub is_closed : {n : ℕ} → Built n → Bool
is_closed (Closed t) = true
is_closed (Unclosed entries) = false

-- what is built can be written: its formulas aren't too deep, and its values are below n
abbrev pub IsShallow : {n : ℕ} → Built n → Type 0
IsShallow (Closed t) = All (λ f. depth f < 2 ^ 32) (formulas_of t)
IsShallow {n} (Unclosed entries) = All (λ entry. depth entry.0 < 2 ^ 32) entries × All (λ entry. entry.1 < n) entries

-- The goal of a query at a place is put, with what is built for it.
pub record IsGoalPut (n : ℕ) (logic : Logic) (rules : List OperatorRule) (number : ℕ) (query : Query) (place : ℕ) (closed : Bool) (before after : List ℕ) : Type 0 where
  pub goal : List SignedFormula
  pub is : slice_get (goals_of logic.size query) place ≡ Some goal
  pub built : Built n
  pub right : IsBuilt logic rules goal built
  pub printed : after ≡ before ++ (goal_text logic number (place + 1) goal ++ built_text logic built)
  pub told : closed ≡ is_closed built

-- some goals of a query are put, with what is built for them
pub record AreGoalsPut (n : ℕ) (logic : Logic) (rules : List OperatorRule) (number : ℕ) (goals : List (List SignedFormula)) (closed : Bool) (before after : List ℕ) : Type 0 where
  pub built : List (Built n)
  pub right : AllZip (IsBuilt logic rules) goals built
  pub printed : after ≡ before ++ goals_text logic number 1 goals built
  pub told : closed ≡ list_all is_closed built

-- queries are put, with what is built for their goals
pub record AreQueriesPut (n : ℕ) (logic : Logic) (rules : List OperatorRule) (queries : List Query) (closed : Bool) (text : List ℕ) : Type 0 where
  pub built : List (List (Built n))
  pub right : AllZip (AreBuilt logic rules) queries built
  pub printed : text ≡ queries_text logic 1 queries built
  pub told : closed ≡ list_all (list_all is_closed) built
