-- Lists of parts: tests and maps of them, and facts of each.
use Rattle.std.proofs.Common.{◌≡◌, Bool, true, false, ◌||◌, List, [], ◌∷◌, map, refl, ap}
use Rattle.std.specs.List.{list_any, list_all, AllByRecursion}
use Rattle.std.proofs.lemmas.Bool.{and_parts, or_parts}

pub list_any-map : {X : Type 0} (p : X → Bool) (xs : List X) → list_any (λ b. b) (map p xs) ≡ list_any p xs
list_any-map p [] = refl
list_any-map p (x ∷ xs) = ap (λ b. p x || b) (list_any-map p xs)

-- two functions that agree on each item give one list
pub map_each : {X Y : Type 0} (f g : X → Y) (xs : List X) → AllByRecursion (λ x. f x ≡ g x) xs → map f xs ≡ map g xs
map_each f g [] each = refl
map_each f g (x ∷ xs) each = λ i. each.0 i ∷ map_each f g xs each.1 i

pub map_everywhere : {X Y : Type 0} (f g : X → Y) (xs : List X) → ((x : X) → f x ≡ g x) → map f xs ≡ map g xs
map_everywhere f g [] same = refl
map_everywhere f g (x ∷ xs) same = λ i. same x i ∷ map_everywhere f g xs same i

pub each_always : {X : Type 0} (P : X → Type 0) (xs : List X) → ((x : X) → P x) → AllByRecursion P xs
each_always P [] always = tt
each_always P (x ∷ xs) always = (always x, each_always P xs always)

pub each_from : {X : Type 0} (P Q : X → Type 0) (xs : List X) → ((x : X) → P x → Q x) → AllByRecursion P xs → AllByRecursion Q xs
each_from P Q [] follows each = tt
each_from P Q (x ∷ xs) follows each = (follows x each.0, each_from P Q xs follows each.1)

-- a fact of the items that pass a test, where all do, and of those that fail it, where none passes
pub each_passing : {X : Type 0} (p : X → Bool) (P : X → Type 0) (xs : List X) → AllByRecursion (λ x. p x ≡ true → P x) xs → list_all p xs ≡ true → AllByRecursion P xs
each_passing p P [] each all = tt
each_passing p P (x ∷ xs) each all = let parts = and_parts (p x) (list_all p xs) all in (each.0 parts.0, each_passing p P xs each.1 parts.1)

pub each_failing : {X : Type 0} (p : X → Bool) (P : X → Type 0) (xs : List X) → AllByRecursion (λ x. p x ≡ false → P x) xs → list_any p xs ≡ false → AllByRecursion P xs
each_failing p P [] each none = tt
each_failing p P (x ∷ xs) each none = let parts = or_parts (p x) (list_any p xs) none in (each.0 parts.0, each_failing p P xs each.1 parts.1)
