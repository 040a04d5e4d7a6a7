-- A clause of a quantifier whose sets are smaller is true at no more sets of values.
use Rattle.std.proofs.Common.{◌≡◌, ℕ, true, List, [], ◌∷◌, ⊎_elim}
use Rattle.std.specs.List.{list_all, list_any}
use Rattle.std.proofs.lemmas.Bool.{and_parts, and_from, or_cases, or_left, or_right}
use Rattle.lgc_values.specs.Values.{has}
use Rattle.lgc_clauses.specs.Rules.{holds_over}
use Rattle.lgc_derivation.specs.Parts.{IsWithin}

any_within : (narrow wide values : List ℕ) → ((v : ℕ) → has narrow v ≡ true → has wide v ≡ true) → list_any (has narrow) values ≡ true → list_any (has wide) values ≡ true
any_within narrow wide [] inside holds = holds
any_within narrow wide (v ∷ values) inside holds = ⊎_elim
    (λ here. or_left (has wide v) (list_any (has wide) values) (inside v here))
    (λ there. or_right (has wide v) (list_any (has wide) values) (any_within narrow wide values inside there))
    (or_cases (has narrow v) (list_any (has narrow) values) holds)

all_within : (narrow wide values : List ℕ) → ((v : ℕ) → has narrow v ≡ true → has wide v ≡ true) → list_all (has narrow) values ≡ true → list_all (has wide) values ≡ true
all_within narrow wide [] inside holds = holds
all_within narrow wide (v ∷ values) inside holds =
    let parts = and_parts (has narrow v) (list_all (has narrow) values) holds in
    and_from (has wide v) (list_all (has wide) values) (inside v parts.0) (all_within narrow wide values inside parts.1)

some_within : (narrow wide : List (List ℕ)) (values : List ℕ) → IsWithin narrow wide → list_any (λ set. list_all (has set) values) narrow ≡ true → list_any (λ set. list_all (has set) values) wide ≡ true
some_within [] [] values within holds = holds
some_within [] (wide ∷ wides) values within holds = absurd within
some_within (narrow ∷ narrows) [] values within holds = absurd within
some_within (narrow ∷ narrows) (wide ∷ wides) values within holds = ⊎_elim
    (λ here. or_left (list_all (has wide) values) (list_any (λ set. list_all (has set) values) wides) (all_within narrow wide values within.0 here))
    (λ there. or_right (list_all (has wide) values) (list_any (λ set. list_all (has set) values) wides) (some_within narrows wides values within.1 there))
    (or_cases (list_all (has narrow) values) (list_any (λ set. list_all (has set) values) narrows) holds)

pub holds_over_within : (narrow wide : List (List ℕ)) (values : List ℕ) → IsWithin narrow wide → holds_over narrow values ≡ true → holds_over wide values ≡ true
holds_over_within [] [] values within holds = holds
holds_over_within [] (wide ∷ wides) values within holds = absurd within
holds_over_within (narrow ∷ narrows) [] values within holds = absurd within
holds_over_within (narrow ∷ narrows) (wide ∷ wides) values within holds = ⊎_elim
    (λ here. or_left (list_any (has wide) values) (list_any (λ set. list_all (has set) values) wides) (any_within narrow wide values within.0 here))
    (λ there. or_right (list_any (has wide) values) (list_any (λ set. list_all (has set) values) wides) (some_within narrows wides values within.1 there))
    (or_cases (list_any (has narrow) values) (list_any (λ set. list_all (has set) values) narrows) holds)
