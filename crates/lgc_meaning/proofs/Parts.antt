-- What is true of each formula of a query is true of each of its parts.
use Rattle.std.proofs.Common.{List, [], ◌∷◌, ◌++◌, suc, subst, arith}
use Rattle.std.specs.List.{All, flat_map}
use Rattle.std.proofs.lemmas.List.{length-append, get_or_append_left}
use Rattle.std.proofs.lemmas.List.Elements.{All-cons}

pub All-left : {X : Type 0} (P : X → Type 0) (xs ys : List X) → All P (xs ++ ys) → All P xs
All-left P xs ys all = λ i d lt. subst P (get_or_append_left xs ys d i lt) (all i d (omega (arith, length-append xs ys)))

pub All-right : {X : Type 0} (P : X → Type 0) (xs ys : List X) → All P (xs ++ ys) → All P ys
All-right P [] ys all = all
All-right P (x ∷ xs) ys all = All-right P xs ys (λ i d lt. all (suc i) d (omega arith))

pub All-flat_map : {X Y : Type 0} (P : Y → Type 0) (g : X → List Y) (xs : List X) → All P (flat_map g xs) → All (λ x. All P (g x)) xs
All-flat_map P g [] all = λ i d lt. absurd (omega arith)
All-flat_map P g (x ∷ xs) all = All-cons (λ x. All P (g x)) x xs (All-left P (g x) (flat_map g xs) all) (All-flat_map P g xs (All-right P (g x) (flat_map g xs) all))
