-- The least clauses of a list: those without a full set that no other one subsumes.
use Rattle.std.specs.Prelude.{◌≡◌, ◌≢◌, ◌↔◌, ℕ, true, false, List, AllPairs}
use Rattle.std.specs.List.{Contains}
use Rattle.lgc_clause_sets.specs.AtomClauses.{has_full, subsumes}

-- a clause is a least one of a list: it stands there, has no full set, and no other one there subsumes it
pub record IsLeast (n : ℕ) (clauses : List (List (List ℕ))) (c : List (List ℕ)) : Type 0 where
  pub is : Contains clauses c
  pub not_full : has_full n c ≡ false
  pub least : (d : List (List ℕ)) → Contains clauses d → subsumes d c ≡ true → d ≡ c

-- these are the least clauses of a list, each once
pub record AreLeast (n : ℕ) (clauses least : List (List (List ℕ))) : Type 0 where
  pub each : (c : List (List ℕ)) → Contains least c ↔ IsLeast n clauses c
  pub once : AllPairs (λ c d. c ≢ d) least
