-- Sets of truth values, as rising lists.
use Rattle.std.specs.Prelude.{◌≡◌, ℕ, ◌+◌, ◌^◌, ◌<◌, ◌≤◌, Bool, true, false, ◌==◌, List, [], ◌∷◌, filter, Option, MatchOption, nat_le, ◌&&◌}
use Rattle.std.specs.List.{range_with_len, list_any}
use Rattle.std.specs.Int.{bit_at}
use Rattle.lgc_values.specs.declared.TheConstants.{MOST_VALUES}

-- a logic has two or more truth values, and not too many
pub record IsSize (n : ℕ) : Type 0 where
  pub low : 2 ≤ n
  pub high : n ≤ MOST_VALUES

-- the values below n that pass a test, rising
abbrev pub values_where : ℕ → (ℕ → Bool) → List ℕ
values_where n test = filter test (range_with_len 0 n)

-- whether v is a member
abbrev pub has : List ℕ → ℕ → Bool
has set v = list_any (λ w. w == v) set

-- the sum of 2 ^ v over the members v
abbrev pub mask_of : List ℕ → ℕ
mask_of [] = 0
mask_of (v ∷ set) = 2 ^ v + mask_of set

-- the members of the set with this mask
abbrev pub members_of : ℕ → ℕ → List ℕ
members_of n mask = values_where n (λ v. bit_at mask v == 1)

-- the nonempty set of values that stands in a row of a quantifier's table, given by its index: the set whose mask is the index and one
abbrev pub set_of_row : ℕ → ℕ → List ℕ
set_of_row n row = members_of n (row + 1)

-- v is the least value below n that passes a test
pub record IsLeast (n : ℕ) (test : ℕ → Bool) (v : ℕ) : Type 0 where
  pub within : v < n
  pub passes : test v ≡ true
  pub before : (w : ℕ) → w < v → test w ≡ false

-- no value below n passes a test
abbrev pub NonePasses : ℕ → (ℕ → Bool) → Type 0
NonePasses n test = (v : ℕ) → v < n → test v ≡ false

-- the least value below n that passes a test, and None exactly where none passes
abbrev pub Least : ℕ → (ℕ → Bool) → Option ℕ → Type 0
Least n test found = MatchOption found (NonePasses n test) (IsLeast n test)

-- a value from low on that is in the set with a mask
abbrev pub is_from : ℕ → ℕ → ℕ → Bool
is_from low mask w = nat_le low w && (bit_at mask w == 1)
