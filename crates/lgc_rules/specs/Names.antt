-- What the names and numbers of rules mean in a logic.
use Rattle.std.specs.Prelude.{ℕ, ◌||◌, ◌==◌, ◌-◌, nat_lt, Bool, List, [], ◌++◌, unwrap_or, is_none, replicate, length}
use Rattle.lgc_values.specs.Logic.{Logic, value_named, operator_named, quantifier_named}
use Rattle.lgc_values.specs.Values.{has, values_where}
use Rattle.lgc_tokens.specs.Numbers.{number_of}
use Rattle.lgc_tokens.specs.Spelled.{Spelled}

-- the value that a token names
abbrev pub value_of : Logic → Spelled → ℕ
value_of logic t = unwrap_or (value_named logic t.text) 0

-- the operator that a token names
abbrev pub operator_of : Logic → Spelled → ℕ
operator_of logic t = unwrap_or (operator_named logic t.text) 0

-- the quantifier that a token names
abbrev pub quantifier_of : Logic → Spelled → ℕ
quantifier_of logic t = unwrap_or (quantifier_named logic t.text) 0

-- the number that a token writes
abbrev pub number : Spelled → ℕ
number t = number_of t.text

-- ---- what breaks a rule

-- the token names no value
abbrev pub names_no_value : Logic → Spelled → Bool
names_no_value logic t = is_none (value_named logic t.text)

-- the token names no operator
abbrev pub names_no_operator : Logic → Spelled → Bool
names_no_operator logic t = is_none (operator_named logic t.text)

-- the token names no quantifier
abbrev pub names_no_quantifier : Logic → Spelled → Bool
names_no_quantifier logic t = is_none (quantifier_named logic t.text)

-- the number isn't one from `least` to `most`
abbrev pub is_outside : ℕ → ℕ → Spelled → Bool
is_outside least most t = nat_lt (number t) least || nat_lt most (number t)

-- ---- sets

-- the set with a value added
abbrev pub with_value : ℕ → List ℕ → ℕ → List ℕ
with_value n set value = values_where n (λ w. has set w || w == value)

-- the sets of arguments, with empty ones behind them so that there are k at least
abbrev pub padded : ℕ → List (List ℕ) → List (List ℕ)
padded k sets = sets ++ replicate (k - length sets) []
