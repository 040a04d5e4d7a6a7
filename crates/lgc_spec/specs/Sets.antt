-- The nonempty sets of values, and tables with a value for each of them.
use Rattle.std.specs.Prelude.{ℕ, ◌+◌, ◌-◌, ◌^◌, List, map}
use Rattle.std.specs.List.{range_with_len}
use Rattle.lgc_values.specs.Values.{members_of}

-- the nonempty sets of values below n, by their masks
abbrev pub nonempty_sets : ℕ → List (List ℕ)
nonempty_sets n = map (λ index. members_of n (index + 1)) (range_with_len 0 (2 ^ n - 1))

-- the value of a function at each nonempty set
abbrev pub table_over : ℕ → (List ℕ → ℕ) → List ℕ
table_over n value = map value (nonempty_sets n)
