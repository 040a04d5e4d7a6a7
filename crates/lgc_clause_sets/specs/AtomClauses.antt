-- Clauses over a list of atoms, as rows of sets of truth values: one set for each atom, empty where the clause doesn't speak of the atom.
-- A clause is true where some atom has a value in its set.
use Rattle.std.specs.Prelude.{ℕ, ◌&&◌, Bool, true, false, List, [], ◌∷◌, map}
use Rattle.std.specs.List.{list_all, list_any, flat_map}
use Rattle.lgc_values.specs.Values.{has}
use Rattle.lgc_sequents.specs.Sequents.{has_all, union}

-- whether a set has a member
abbrev pub has_member : List ℕ → Bool
has_member [] = false
has_member (v ∷ set) = true

-- whether some atom has all values, so that the clause is always true
abbrev pub has_full : ℕ → List (List ℕ) → Bool
has_full n clause = list_any (has_all n) clause

-- whether a clause subsumes another one over the same atoms: each of its sets lies in the other's set of the same atom
abbrev pub subsumes : List (List ℕ) → List (List ℕ) → Bool
subsumes [] [] = true
subsumes [] (wide ∷ wides) = false
subsumes (narrow ∷ narrows) [] = false
subsumes (narrow ∷ narrows) (wide ∷ wides) = list_all (has wide) narrow && subsumes narrows wides

-- the clause with both clauses' values of each atom
abbrev pub joined : ℕ → List (List ℕ) → List (List ℕ) → List (List ℕ)
joined n [] others = others
joined n (set ∷ sets) [] = set ∷ sets
joined n (set ∷ sets) (other ∷ others) = union n set other ∷ joined n sets others

-- each clause of one list joined with each of the other
abbrev pub products : ℕ → List (List (List ℕ)) → List (List (List ℕ)) → List (List (List ℕ))
products n lefts rights = flat_map (λ left. map (joined n left) rights) lefts
