-- What the values in a set mean in a logic.
use Rattle.std.specs.Prelude.{ℕ, ◌||◌, ◌==◌, Bool, List, unwrap_or, is_none}
use Rattle.lgc_values.specs.Logic.{Logic, value_named}
use Rattle.lgc_values.specs.Values.{has, values_where}
use Rattle.lgc_tokens.specs.Spelled.{Spelled}

-- the value that a token names
abbrev pub value_of : Logic → Spelled → ℕ
value_of logic t = unwrap_or (value_named logic t.text) 0

-- the token names no value
abbrev pub names_no_value : Logic → Spelled → Bool
names_no_value logic t = is_none (value_named logic t.text)

-- the set with a value added
abbrev pub with_value : Logic → List ℕ → ℕ → List ℕ
with_value logic set value = values_where logic.size (λ w. has set w || w == value)
