-- Reductions: some clauses of a list that stand for all of it, since one of them subsumes each clause that isn't always true.
use Rattle.std.specs.Prelude.{◌≡◌, ◌⊎◌, ℕ, true, false, List, [], ◌∷◌, ◌++◌, AllPairs}
use Rattle.lgc_clause_sets.specs.AtomClauses.{has_full, subsumes}

-- x is one of the items
abbrev pub Among : {X : Type 0} → List X → X → Type 0
Among [] x = ⊥
Among (y ∷ ys) x = (y ≡ x) ⊎ Among ys x

-- each clause of the second list that has no full set is subsumed by one of the first
abbrev pub Covers : ℕ → List (List (List ℕ)) → List (List (List ℕ)) → Type 0
Covers n first second = (c : List (List ℕ)) → Among second c → has_full n c ≡ false → (d : List (List ℕ)) × Among first d × (subsumes d c ≡ true)

-- neither clause subsumes the other
pub record AreApart (c d : List (List ℕ)) : Type 0 where
  pub onward : subsumes c d ≡ false
  pub back : subsumes d c ≡ false

-- some of the clauses, none with a full set and no two of which one subsumes the other; one of them subsumes each clause without a full set
pub record IsReduction (n : ℕ) (clauses kept : List (List (List ℕ))) : Type 0 where
  pub within : (c : List (List ℕ)) → Among kept c → Among clauses c
  pub covering : Covers n kept clauses
  pub not_full : (c : List (List ℕ)) → Among kept c → has_full n c ≡ false
  pub apart : AllPairs AreApart kept

-- where the old clauses are a reduction of some list, the new ones are one of this list and the added clauses
abbrev pub Reduces : ℕ → List (List (List ℕ)) → List (List (List ℕ)) → List (List (List ℕ)) → Type 0
Reduces n added old new = (clauses : List (List (List ℕ))) → IsReduction n clauses old → IsReduction n (clauses ++ added) new

-- where two lists of clauses are reductions, the new one is a reduction of what both are reductions of
abbrev pub ReducesBoth : ℕ → List (List (List ℕ)) → List (List (List ℕ)) → List (List (List ℕ)) → Type 0
ReducesBoth n first second new = (clauses others : List (List (List ℕ))) → IsReduction n clauses first → IsReduction n others second → IsReduction n (clauses ++ others) new
