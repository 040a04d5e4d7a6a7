-- How private functions count the quantifiers around a place without bound. A counter stops at 2 ^ 32, which no bound variable points past.
use Rattle.std.specs.Prelude.{◌≡◌, ◌^◌, ℕ, min}

-- P holds of each number of quantifiers that the counter stands for
abbrev pub AtDepth : ℕ → (ℕ → Type 0) → Type 0
AtDepth counter P = (n : ℕ) → min n (2 ^ 32) ≡ counter → P n
