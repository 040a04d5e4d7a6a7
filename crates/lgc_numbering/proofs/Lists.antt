-- Items by their places, in lists that grow.
use Rattle.std.proofs.Common.{◌⊎◌, inl, inr, ℕ, zero, suc, ◌≡◌, List, [], ◌∷◌, ◌++◌, Some, length, map, slice_get, refl, ap}
use Rattle.std.specs.List.{All}
use Rattle.std.proofs.lemmas.List.Elements.{All-head, All-tail}

pub slice_get-left : {X : Type 0} (xs ys : List X) (k : ℕ) (x : X) → slice_get xs k ≡ Some x → slice_get (xs ++ ys) k ≡ Some x
slice_get-left [] ys k x at = cc
slice_get-left (y ∷ xs) ys zero x at = at
slice_get-left (y ∷ xs) ys (suc k) x at = slice_get-left xs ys k x at

pub slice_get-last : {X : Type 0} (xs : List X) (x : X) → slice_get (xs ++ x ∷ []) (length xs) ≡ Some x
slice_get-last [] x = refl
slice_get-last (y ∷ xs) x = slice_get-last xs x

-- an item of a list with one more is one of the list, or the last
pub slice_get-cases : {X : Type 0} (xs : List X) (x y : X) (k : ℕ) → slice_get (xs ++ x ∷ []) k ≡ Some y → (slice_get xs k ≡ Some y) ⊎ ((k ≡ length xs) × (x ≡ y))
slice_get-cases [] x y zero at = let same : x ≡ y = cc in inr (refl, same)
slice_get-cases [] x y (suc k) at = inl at
slice_get-cases (z ∷ xs) x y zero at = inl at
slice_get-cases (z ∷ xs) x y (suc k) at = later (slice_get-cases xs x y k at) where
  later : (slice_get xs k ≡ Some y) ⊎ ((k ≡ length xs) × (x ≡ y)) → (slice_get xs k ≡ Some y) ⊎ ((suc k ≡ suc (length xs)) × (x ≡ y))
  later (inl here) = inl here
  later (inr last) = inr (ap suc last.0, last.1)

-- two functions that agree on each item give one list
pub map-alike : {X Y : Type 0} (f g : X → Y) (xs : List X) → All (λ x. f x ≡ g x) xs → map f xs ≡ map g xs
map-alike f g [] each = refl
map-alike f g (x ∷ xs) each = λ i. All-head (λ x. f x ≡ g x) x xs each i ∷ map-alike f g xs (All-tail (λ x. f x ≡ g x) x xs each) i

-- a function that tells the items of two lists apart tells the lists apart
pub map-told : {X Y : Type 0} (P : X → Type 0) (f : X → Y) → ((x y : X) → P x → P y → f x ≡ f y → x ≡ y) → (xs ys : List X) → All P xs → All P ys → map f xs ≡ map f ys → xs ≡ ys
map-told P f told [] [] of_xs of_ys same = refl
map-told P f told [] (y ∷ ys) of_xs of_ys same = cc
map-told P f told (x ∷ xs) [] of_xs of_ys same = cc
map-told P f told (x ∷ xs) (y ∷ ys) of_xs of_ys same =
    let here : f x ≡ f y = cc in
    let after : map f xs ≡ map f ys = cc in
    λ i. told x y (All-head P x xs of_xs) (All-head P y ys of_ys) here i ∷ map-told P f told xs ys (All-tail P x xs of_xs) (All-tail P y ys of_ys) after i
