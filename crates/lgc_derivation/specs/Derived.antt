-- Prime clauses over a table, when the others cover one, and what is derived.
use Rattle.std.specs.Prelude.{◌≡◌, ℕ, ◌<◌, ◌≤◌, true, false, List, length, All}
use Rattle.std.specs.List.{insert, remove}
use Rattle.lgc_values.specs.Values.{has}
use Rattle.lgc_clauses.specs.Rules.{IsRising}
use Rattle.lgc_clauses.specs.Irredundance.{set_at, clause_at, sets_without}
use Rattle.lgc_derivation.specs.Tables.{PlainTable, all_hold_over, IsExactOver, IsIrredundantOver}

-- the clause is true at every row of the target
abbrev pub Follows : PlainTable → List (List ℕ) → Type 0
Follows table sets = (row : ℕ) → row < table.count → table.target row ≡ true → table.holds sets row ≡ true

-- the clause is false at this row of the target
pub record RefutesAt (table : PlainTable) (sets : List (List ℕ)) (row : ℕ) : Type 0 where
  pub within : row < table.count
  pub inside : table.target row ≡ true
  pub fails : table.holds sets row ≡ false

-- if value v is in set j, a row shows that the clause doesn't follow without it
abbrev pub IsSettled : PlainTable → List (List ℕ) → ℕ → ℕ → Type 0
IsSettled table sets j v = has (set_at sets j) v ≡ true → (row : ℕ) × RefutesAt table (sets_without sets j v) row

-- the clause follows, and doesn't without any one value of any one set
pub record IsPrime (table : PlainTable) (sets : List (List ℕ)) : Type 0 where
  pub follows : Follows table sets
  pub settled : (j v : ℕ) → j < length sets → IsSettled table sets j v

-- the clauses with one more at some place
abbrev pub IsInserted : List (List (List ℕ)) → List (List ℕ) → List (List (List ℕ)) → Type 0
IsInserted old sets new = (i : ℕ) × (i ≤ length old) × (new ≡ insert old i sets)

-- clause i is false at this row, and each other clause is true
pub record NeedsAt (table : PlainTable) (clauses : List (List (List ℕ))) (i row : ℕ) : Type 0 where
  pub within : row < table.count
  pub fails : table.holds (clause_at clauses i) row ≡ false
  pub rest : all_hold_over table (remove clauses i) row ≡ true

-- wherever clause i is false, another one is
abbrev pub IsCovered : PlainTable → List (List (List ℕ)) → ℕ → Type 0
IsCovered table clauses i = (row : ℕ) → row < table.count → table.holds (clause_at clauses i) row ≡ false → all_hold_over table (remove clauses i) row ≡ false

-- prime clauses of a form, which rise by the lists of their masks
pub record ArePrime (table : PlainTable) (HasForm : List (List ℕ) → Type 0) (clauses : List (List (List ℕ))) : Type 0 where
  pub form : All HasForm clauses
  pub prime : All (IsPrime table) clauses
  pub rising : IsRising clauses

-- clauses of a form, which are exact, irredundant, and rise by the lists of their masks
pub record IsDerived (table : PlainTable) (HasForm : List (List ℕ) → Type 0) (clauses : List (List (List ℕ))) : Type 0 where
  pub form : All HasForm clauses
  pub exact : IsExactOver table clauses
  pub irredundant : IsIrredundantOver table clauses
  pub rising : IsRising clauses
