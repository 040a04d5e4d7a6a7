-- How the rules of a book are found: by their operators and the masks of their signs.
use Rattle.std.specs.Prelude.{◌≡◌, ◌^◌, ◌<◌, ℕ, List, map, All}
use Rattle.lgc_values.specs.Values.{mask_of, members_of}
use Rattle.lgc_clauses.specs.Rules.{OperatorRule}
use Rattle.lgc_calculus.specs.declared.book.RuleKey.{RuleKey}

abbrev pub key_of : OperatorRule → RuleKey
key_of rule = record { op = rule.op; mask = mask_of rule.sign }

-- a set of values below n is the one that its mask tells
pub record IsMasked (n : ℕ) (set : List ℕ) : Type 0 where
  pub below : mask_of set < 2 ^ n
  pub members : members_of n (mask_of set) ≡ set

-- the keys are those of the rules, in their order
pub record AreKeys (n : ℕ) (rules : List OperatorRule) (keys : List RuleKey) : Type 0 where
  pub listed : keys ≡ map key_of rules
  pub signs : All (λ rule. IsMasked n rule.sign) rules
