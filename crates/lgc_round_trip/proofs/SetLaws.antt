-- The members of a mask are a set, and what holds of the first elements of a list.
use Rattle.std.proofs.Common.{◌≡◌, ℕ, ◌+◌, ◌<◌, ◌&&◌, ◌==◌, List, length, get_or, take, sym, ap, subst, ◌∙◌}
use Rattle.std.specs.Prelude.{All}
use Rattle.std.specs.Int.{bit_at}
use Rattle.std.proofs.lemmas.Bool.{lt-ltb}
use Rattle.std.proofs.lemmas.List.{take_more}
use Rattle.std.proofs.lemmas.List.Elements.{All-push}
use Rattle.lgc_values.specs.Values.{has, members_of}
use Rattle.lgc_values.proofs.ValueLaws.{has-values_where, values_where-alike}
use Rattle.lgc_round_trip.specs.RoundTrip.{IsSet}

pub set_of_members : (n mask : ℕ) (set : List ℕ) → set ≡ members_of n mask → IsSet n set
set_of_members n mask set is =
    let p = λ (v : ℕ). bit_at mask v == 1 in
    is ∙ values_where-alike n p (has set) (λ v lt. sym (ap (λ s. has s v) is ∙ has-values_where n p v ∙ ap (λ b. b && p v) (lt-ltb v n lt)))

-- one more element of a list
pub all_more : {X : Type 0} (P : X → Type 0) (xs : List X) (i : ℕ) (d : X) → i < length xs → P (get_or xs i d) → All P (take i xs) → All P (take (i + 1) xs)
all_more P xs i d lt here before = subst (λ ys. All P ys) (sym (take_more xs i d lt)) (All-push P (take i xs) (get_or xs i d) before here)
