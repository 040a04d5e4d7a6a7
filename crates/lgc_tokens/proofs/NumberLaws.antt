-- The number that digits write isn't below that of the first of them.
use Rattle.std.proofs.Common.{◌≡◌, ℕ, ◌+◌, ◌-◌, ◌*◌, ◌<◌, ◌≤◌, List, [], ◌∷◌, length, fold, get_or, take, drop, sym, ap, ◌∙◌, arith}
use Rattle.std.proofs.lemmas.Grind.{fold-append}
use Rattle.std.proofs.lemmas.List.{take_more, take-append-drop}
use Rattle.lgc_tokens.specs.Numbers.{number_of}

-- digits behind a number don't make it less
number_grows : (number : ℕ) (digits : List ℕ) → number ≤ fold (λ n d. 10 * n + (d - 48)) number digits
number_grows number [] = omega arith
number_grows number (d ∷ digits) = let rest = number_grows (10 * number + (d - 48)) digits in omega arith

pub number_above : (digits : List ℕ) (i number digit bound : ℕ) → i < length digits → number ≡ number_of (take i digits) → digit ≡ get_or digits i 0 - 48 → bound < 10 * number + digit → bound < number_of digits
number_above digits i number digit bound lt so_far is above =
    let next : number_of (take (i + 1) digits) ≡ 10 * number_of (take i digits) + (get_or digits i 0 - 48) =
    rw (take_more digits i 0 lt) (fold-append (λ n d. 10 * n + (d - 48)) 0 (take i digits) (get_or digits i 0 ∷ [])) in
    let whole : number_of digits ≡ fold (λ n d. 10 * n + (d - 48)) (number_of (take (i + 1) digits)) (drop (i + 1) digits) =
    sym (ap number_of (take-append-drop (i + 1) digits)) ∙ fold-append (λ n d. 10 * n + (d - 48)) 0 (take (i + 1) digits) (drop (i + 1) digits) in
    let grown = number_grows (number_of (take (i + 1) digits)) (drop (i + 1) digits) in
    omega arith
