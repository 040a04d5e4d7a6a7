-- The calculus of a logic.
use Rattle.std.specs.Prelude.{◌≡◌, ℕ, List, [], ◌∷◌, ◌++◌, length, map, All}
use Rattle.std.specs.List.{flat_map, range_with_len}
use Rattle.lgc_values.specs.Logic.{Logic}
use Rattle.lgc_clauses.specs.Rules.{Head, operator, quantifier, PlainRule, Fits, IsRising, HasRisingSets}
use Rattle.lgc_clauses.specs.Exactness.{IsExact}
use Rattle.lgc_clauses.specs.Irredundance.{IsIrredundant}

-- what a rule introduces, and its sign
abbrev pub head_of : PlainRule → Head × List ℕ
head_of rule = (rule.head, rule.sign)

-- each of the first heads of a kind with each single value, in order
abbrev pub heads_with_values : ℕ → (ℕ → Head) → ℕ → List (Head × List ℕ)
heads_with_values size head count = flat_map (λ k. map (λ v. (head k, v ∷ [])) (range_with_len 0 size)) (range_with_len 0 count)

-- each operator with each single value, in order, and then each quantifier
abbrev pub heads_of : Logic → List (Head × List ℕ)
heads_of logic = heads_with_values logic.size operator (length logic.operators) ++ heads_with_values logic.size quantifier (length logic.quantifiers)

-- The premises hold exactly when the conclusion does, no premise and no value of a set can be taken away, and the clauses and
-- the `all` sets of each rise.
pub record IsRightRule (logic : Logic) (rule : PlainRule) : Type 0 where
  pub fits : Fits logic rule
  pub exact : IsExact logic rule
  pub irredundant : IsIrredundant logic rule
  pub rising : IsRising rule.clauses
  pub sets : All (HasRisingSets rule.head) rule.clauses

-- There is one right rule for each operator and each single value, in order, and then one for each quantifier and each single value.
pub record IsCalculus (logic : Logic) (rules : List PlainRule) : Type 0 where
  pub heads : map head_of rules ≡ heads_of logic
  pub right : All (IsRightRule logic) rules
