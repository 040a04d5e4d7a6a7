-- Places in clauses, and clauses with smaller sets.
use Rattle.std.specs.Prelude.{◌≡◌, ℕ, ◌<◌, true, List, [], ◌∷◌, length}
use Rattle.lgc_values.specs.Values.{has}
use Rattle.lgc_clauses.specs.Irredundance.{set_at, clause_at}

-- clause i has a set j with the value v
pub record IsPlace (clauses : List (List (List ℕ))) (i j v : ℕ) : Type 0 where
  pub clause : i < length clauses
  pub part : j < length (clause_at clauses i)
  pub value : has (set_at (clause_at clauses i) j) v ≡ true

-- each set of the one clause lies in the set of the other at the same place
abbrev pub IsWithin : List (List ℕ) → List (List ℕ) → Type 0
IsWithin [] [] = Unit {0}
IsWithin [] (wide ∷ wides) = ⊥
IsWithin (narrow ∷ narrows) [] = ⊥
IsWithin (narrow ∷ narrows) (wide ∷ wides) = ((v : ℕ) → has narrow v ≡ true → has wide v ≡ true) × IsWithin narrows wides
