-- Tables that a rule is derived from, and when clauses are exact and irredundant over one.
use Rattle.std.specs.Prelude.{◌≡◌, ℕ, ◌<◌, Bool, List, length}
use Rattle.std.specs.List.{list_all, remove}
use Rattle.lgc_clauses.specs.Irredundance.{clauses_without}
use Rattle.lgc_derivation.specs.Parts.{IsPlace}

-- how many rows there are, at which of them all clauses are to be true, and where a clause is true
pub record PlainTable : Type 0 where
  pub count : ℕ
  pub target : ℕ → Bool
  pub holds : List (List ℕ) → ℕ → Bool

-- whether every clause is true at a row
abbrev pub all_hold_over : PlainTable → List (List (List ℕ)) → ℕ → Bool
all_hold_over table clauses row = list_all (λ sets. table.holds sets row) clauses

-- at every row the clauses are all true exactly where the target is
abbrev pub IsExactOver : PlainTable → List (List (List ℕ)) → Type 0
IsExactOver table clauses = (row : ℕ) → row < table.count → all_hold_over table clauses row ≡ table.target row

-- the clauses aren't exact without any one of them, nor without any one value of any one set
pub record IsIrredundantOver (table : PlainTable) (clauses : List (List (List ℕ))) : Type 0 where
  pub needs_clause : (i : ℕ) → i < length clauses → IsExactOver table (remove clauses i) → ⊥
  pub needs_value : (i j v : ℕ) → IsPlace clauses i j v → IsExactOver table (clauses_without clauses i j v) → ⊥
