-- A clause of an operator whose sets are smaller is true at no more rows.
use Rattle.std.proofs.Common.{◌≡◌, ℕ, true, List, [], ◌∷◌, length, subst, ⊎_elim}
use Rattle.std.proofs.lemmas.Bool.{or_cases, or_left, or_right}
use Rattle.lgc_values.specs.Values.{has}
use Rattle.lgc_values.specs.Logic.{arguments_at}
use Rattle.lgc_clauses.specs.Rules.{some_in, clause_holds}
use Rattle.lgc_derivation.specs.Parts.{IsWithin}
use Rattle.lgc_derivation.proofs.Within.{within_length}

some_in_within : (narrow wide : List (List ℕ)) (arguments : List ℕ) → IsWithin narrow wide → some_in narrow arguments ≡ true → some_in wide arguments ≡ true
some_in_within [] [] arguments within holds = holds
some_in_within [] (wide ∷ wides) arguments within holds = absurd within
some_in_within (narrow ∷ narrows) [] arguments within holds = absurd within
some_in_within (narrow ∷ narrows) (wide ∷ wides) [] within holds = holds
some_in_within (narrow ∷ narrows) (wide ∷ wides) (argument ∷ arguments) within holds = ⊎_elim
    (λ here. or_left (has wide argument) (some_in wides arguments) (within.0 argument here))
    (λ there. or_right (has wide argument) (some_in wides arguments) (some_in_within narrows wides arguments within.1 there))
    (or_cases (has narrow argument) (some_in narrows arguments) holds)

pub clause_holds_within : (size : ℕ) (narrow wide : List (List ℕ)) (row : ℕ) → IsWithin narrow wide → clause_holds size narrow row ≡ true → clause_holds size wide row ≡ true
clause_holds_within size narrow wide row within holds =
    some_in_within narrow wide (arguments_at size (length wide) row) within (subst (λ (k : ℕ). some_in narrow (arguments_at size k row) ≡ true) (within_length narrow wide within) holds)
