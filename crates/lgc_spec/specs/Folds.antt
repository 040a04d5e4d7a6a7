-- Tables of two arguments, and their folds over sets.
use Rattle.std.specs.Prelude.{◌≡◌, ℕ, ◌+◌, ◌*◌, ◌^◌, ◌<◌, List, [], ◌∷◌, fold, length, All, slice_index}

-- a table has a value at each row of arguments
pub record HasRows (n arity : ℕ) (table : List ℕ) : Type 0 where
  pub rows : length table ≡ n ^ arity
  pub entries : All (λ v. v < n) table

-- the value of a table at two arguments
abbrev pub applied : ℕ → List ℕ → ℕ → ℕ → ℕ
applied n table a b = slice_index table (a * n + b)

-- The values of a nonempty set, joined by an operator from the first on. Where the operator is idempotent, commutative and
-- associative, each other order gives the same (`same_fold` of `proofs/SemilatticeLaws.antt`).
abbrev pub folded : (ℕ → ℕ → ℕ) → List ℕ → ℕ
folded op [] = 0
folded op (v ∷ set) = fold op v set
