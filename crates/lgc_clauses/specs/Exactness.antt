-- When a rule is exact.
use Rattle.std.specs.Prelude.{◌≡◌, ℕ, ◌<◌}
use Rattle.lgc_values.specs.Values.{has}
use Rattle.lgc_values.specs.Logic.{Logic}
use Rattle.lgc_clauses.specs.Rules.{PlainRule, rows_of, value_in, all_true_at}

-- at a row the value lies in the sign exactly when every clause is true
abbrev pub AgreesAt : Logic → PlainRule → ℕ → Type 0
AgreesAt logic rule row = all_true_at logic rule.head rule.clauses row ≡ has rule.sign (value_in logic rule.head row)

-- they agree at each row below this one
abbrev pub AgreesBelow : Logic → PlainRule → ℕ → Type 0
AgreesBelow logic rule row = (earlier : ℕ) → earlier < row → AgreesAt logic rule earlier

-- they agree at every row: of an operator at every row of arguments, of a quantifier at every nonempty set of values
abbrev pub IsExact : Logic → PlainRule → Type 0
IsExact logic rule = AgreesBelow logic rule (rows_of logic rule.head)

-- the least row at which they differ
pub record IsFirstDifference (logic : Logic) (rule : PlainRule) (row : ℕ) : Type 0 where
  pub within : row < rows_of logic rule.head
  pub differs : AgreesAt logic rule row → ⊥
  pub before : AgreesBelow logic rule row
