-- The rules of one kind, which are made before they are put together.
use Rattle.std.specs.Prelude.{◌≡◌, ℕ, ◌*◌, ◌≤◌, List, length, map, All}
use Rattle.lgc_values.specs.declared.TheConstants.{MOST_VALUES}
use Rattle.lgc_values.specs.Logic.{Logic}
use Rattle.lgc_clauses.specs.Rules.{Head, PlainRule}
use Rattle.lgc_calculus.specs.Calculus.{head_of, heads_with_values, IsRightRule}

-- There is one right rule for each of the first heads of a kind and each single value, in order.
pub record AreRules (logic : Logic) (head : ℕ → Head) (count : ℕ) (rules : List PlainRule) : Type 0 where
  pub heads : map head_of rules ≡ heads_with_values logic.size head count
  pub right : All (IsRightRule logic) rules
  pub few : length rules ≤ count * MOST_VALUES
