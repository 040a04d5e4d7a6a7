-- Books of rules. The rules are those of operators, and each has a number: its place, counted from 1.
use Rattle.std.specs.Prelude.{◌≡◌, ◌≢◌, ◌-◌, ◌≤◌, ℕ, List, slice_get, Some, All, AllPairs}
use Rattle.std.specs.List.{Contains}
use Rattle.lgc_values.specs.Logic.{Logic}
use Rattle.lgc_clauses.specs.Rules.{OperatorRule, of_operator}
use Rattle.lgc_sequents.specs.Sequents.{IsSign}
use Rattle.lgc_calculus.specs.Calculus.{head_of, IsRightRule}

-- A book is right for a logic when each rule is, with a sign that has members, and no two rules have the same operator and sign.
pub record IsRightBook (logic : Logic) (rules : List OperatorRule) : Type 0 where
  pub right : All (λ rule. IsRightRule logic (of_operator rule)) rules
  pub signs : All (λ rule. IsSign logic.size rule.sign) rules
  pub distinct : AllPairs (λ a b. head_of (of_operator a) ≢ head_of (of_operator b)) rules

-- this is a rule for the operator at the sign
pub record IsRuleFor (rules : List OperatorRule) (op : ℕ) (sign : List ℕ) (rule : OperatorRule) : Type 0 where
  pub is : Contains rules rule
  pub operator : rule.op ≡ op
  pub signed : rule.sign ≡ sign

-- this is the number of a rule for the operator at the sign
pub record IsNumberFor (rules : List OperatorRule) (op : ℕ) (sign : List ℕ) (number : ℕ) : Type 0 where
  pub rule : OperatorRule
  pub counted : 1 ≤ number
  pub place : slice_get rules (number - 1) ≡ Some rule
  pub operator : rule.op ≡ op
  pub signed : rule.sign ≡ sign
