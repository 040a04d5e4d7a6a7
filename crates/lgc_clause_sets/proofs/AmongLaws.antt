-- Items of lists.
use Rattle.std.proofs.Common.{◌≡◌, ℕ, zero, suc, ◌<◌, ◌⊎◌, inl, inr, Bool, true, false, List, [], ◌∷◌, ◌++◌, length, get_or, map, cond, refl, ap, sym, ◌∙◌, subst, arith}
use Rattle.std.specs.Prelude.{All, filter}
use Rattle.std.specs.List.{Contains, flat_map}
use Rattle.std.proofs.lemmas.Bool.{both_ways}
use Rattle.lgc_clause_sets.specs.Reductions.{Among}

module _ {X : Type 0} where
  pub among_left : (xs ys : List X) (x : X) → Among xs x → Among (xs ++ ys) x
  among_left [] ys x a = absurd a
  among_left (y ∷ xs) ys x (inl e) = inl e
  among_left (y ∷ xs) ys x (inr a) = inr (among_left xs ys x a)

  pub among_right : (xs ys : List X) (x : X) → Among ys x → Among (xs ++ ys) x
  among_right [] ys x a = a
  among_right (y ∷ xs) ys x a = inr (among_right xs ys x a)

  pub among_cases : (xs ys : List X) (x : X) → Among (xs ++ ys) x → Among xs x ⊎ Among ys x
  among_cases [] ys x a = inr a
  among_cases (y ∷ xs) ys x (inl e) = inl (inl e)
  among_cases (y ∷ xs) ys x (inr a) = elim (among_cases xs ys x a) [ inl b ↦ inl (inr b) | inr b ↦ inr b ]

  pub among_all : (P : X → Type 0) (xs : List X) (x : X) → All P xs → Among xs x → P x
  among_all P [] x all a = absurd a
  among_all P (y ∷ xs) x all (inl e) = subst P e (all 0 y (omega arith))
  among_all P (y ∷ xs) x all (inr a) = among_all P xs x (λ k d lt. all (suc k) d (omega arith)) a

  pub all_among : (P : X → Type 0) (xs : List X) → ((x : X) → Among xs x → P x) → All P xs
  all_among P [] h k d lt = absurd (omega arith)
  all_among P (x ∷ xs) h zero d lt = h x (inl refl)
  all_among P (x ∷ xs) h (suc k) d lt = all_among P xs (λ y a. h y (inr a)) k d (omega arith)

  pub among_at : (xs : List X) (i : ℕ) (d : X) → i < length xs → Among xs (get_or xs i d)
  among_at [] i d lt = absurd (omega arith)
  among_at (x ∷ xs) zero d lt = inl refl
  among_at (x ∷ xs) (suc i) d lt = inr (among_at xs i d (omega arith))

  -- an item stands at a place
  pub among_from_contains : (xs : List X) (x : X) → Contains xs x → Among xs x
  among_from_contains xs x (k, lt, is) = subst (Among xs) is (among_at xs k x lt)

  pub contains_from_among : (xs : List X) (x : X) → Among xs x → Contains xs x
  contains_from_among [] x a = absurd a
  contains_from_among (y ∷ xs) x (inl e) = (0, omega arith, e)
  contains_from_among (y ∷ xs) x (inr a) = let later = contains_from_among xs x a in (suc later.0, omega (arith, later.1), later.2)

  -- what a filter keeps
  pub among_filter : (p : X → Bool) (xs : List X) (x : X) → Among (filter p xs) x → Among xs x × (p x ≡ true)
  among_filter p [] x a = absurd a
  among_filter p (y ∷ xs) x a = pick (p y) refl (among_filter p xs x) a where
    pick : (b : Bool) → p y ≡ b → (Among (filter p xs) x → Among xs x × (p x ≡ true)) → Among (cond b (y ∷ filter p xs) (filter p xs)) x → Among (y ∷ xs) x × (p x ≡ true)
    pick true is rest (inl e) = (inl e, ap p (sym e) ∙ is)
    pick true is rest (inr a) = let k = rest a in (inr k.0, k.1)
    pick false is rest a = let k = rest a in (inr k.0, k.1)

  pub filter_among : (p : X → Bool) (xs : List X) (x : X) → Among xs x → p x ≡ true → Among (filter p xs) x
  filter_among p [] x a passes = absurd a
  filter_among p (y ∷ xs) x a passes = pick (p y) refl (λ b. filter_among p xs x b passes) a where
    pick : (b : Bool) → p y ≡ b → (Among xs x → Among (filter p xs) x) → Among (y ∷ xs) x → Among (cond b (y ∷ filter p xs) (filter p xs)) x
    pick true is rest (inl e) = inl e
    pick true is rest (inr a) = inr (rest a)
    pick false is rest (inl e) = absurd (both_ways (p y) is (ap p e ∙ passes))
    pick false is rest (inr a) = rest a

pub among_map : {X Y : Type 0} (f : X → Y) (xs : List X) (x : X) → Among xs x → Among (map f xs) (f x)
among_map f [] x a = absurd a
among_map f (y ∷ xs) x (inl e) = inl (ap f e)
among_map f (y ∷ xs) x (inr a) = inr (among_map f xs x a)

pub map_among : {X Y : Type 0} (f : X → Y) (xs : List X) (y : Y) → Among (map f xs) y → (x : X) × Among xs x × (f x ≡ y)
map_among f [] y a = absurd a
map_among f (x ∷ xs) y (inl e) = (x, inl refl, e)
map_among f (x ∷ xs) y (inr a) = let k = map_among f xs y a in (k.0, inr k.1, k.2)

pub among_flat : {X Y : Type 0} (f : X → List Y) (xs : List X) (x : X) (y : Y) → Among xs x → Among (f x) y → Among (flat_map f xs) y
among_flat f [] x y a b = absurd a
among_flat f (z ∷ xs) x y (inl e) b = among_left (f z) (flat_map f xs) y (subst (λ w. Among (f w) y) (sym e) b)
among_flat f (z ∷ xs) x y (inr a) b = among_right (f z) (flat_map f xs) y (among_flat f xs x y a b)

pub flat_among : {X Y : Type 0} (f : X → List Y) (xs : List X) (y : Y) → Among (flat_map f xs) y → (x : X) × Among xs x × Among (f x) y
flat_among f [] y a = absurd a
flat_among f (x ∷ xs) y a = elim (among_cases (f x) (flat_map f xs) y a) [ inl b ↦ (x, inl refl, b) | inr b ↦ (let k = flat_among f xs y b in (k.0, inr k.1, k.2)) ]
