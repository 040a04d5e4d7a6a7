-- Items that give their parts in turn: nothing so far, one more, and a fault.
use Rattle.std.proofs.Common.{◌≡◌, ℕ, zero, suc, ◌+◌, ◌<◌, ◌≤◌, ◌⊎◌, inl, inr, List, [], ◌∷◌, ◌++◌, length, take, drop, get_or, Option, Some, None, Result, Ok, Err, refl, sym, ap, ◌∙◌, append_assoc, arith}
use Rattle.std.specs.Prelude.{filter_map}
use Rattle.std.proofs.Math.Seq.{get_or-append_seam}
use Rattle.std.proofs.lemmas.List.{take_more, take-append-drop, get_or_append_left, length-append, append-nil}
use Rattle.std.proofs.lemmas.List.Elements.{filter_map-append}
use Rattle.lgc_spec.specs.InOrder.{AllGive, InTurn}

pub AllGive-none : {X Y F : Type 0} (says : List X → X → Result Y F → Type 0) → AllGive says [] []
AllGive-none says = (refl, λ i x y lt. absurd (omega arith))

take-front : {X : Type 0} (i : ℕ) (xs ys : List X) → i ≤ length xs → take i (xs ++ ys) ≡ take i xs
take-front zero xs ys le = refl
take-front (suc i) [] ys le = absurd (omega arith)
take-front (suc i) (x ∷ xs) ys le = ap (λ zs. x ∷ zs) (take-front i xs ys (omega arith))

take-whole : {X : Type 0} (xs : List X) → take (length xs) xs ≡ xs
take-whole [] = refl
take-whole (x ∷ xs) = ap (λ zs. x ∷ zs) (take-whole xs)

-- the items in front of one, and this one
front_is : {X : Type 0} (xs ys : List X) → take (length xs) (xs ++ ys) ≡ xs
front_is xs ys = take-front (length xs) xs ys (omega arith) ∙ take-whole xs

before_or_at : (i n : ℕ) → i < n + 1 → (i < n) ⊎ (i ≡ n)
before_or_at zero zero lt = inr refl
before_or_at zero (suc n) lt = inl (omega arith)
before_or_at (suc i) zero lt = absurd (omega arith)
before_or_at (suc i) (suc n) lt = step (before_or_at i n (omega arith)) where
  step : (i < n) ⊎ (i ≡ n) → (suc i < suc n) ⊎ (suc i ≡ suc n)
  step (inl l) = inl (omega arith)
  step (inr e) = inr (ap suc e)

pub AllGive-push : {X Y F : Type 0} (says : List X → X → Result Y F → Type 0) (xs : List X) (ys : List Y) (x : X) (y : Y) → AllGive says xs ys → says xs x (Ok y) → AllGive says (xs ++ x ∷ []) (ys ++ y ∷ [])
AllGive-push {X = X} {Y = Y} {F = F} says xs ys x y so_far here = (sizes, λ i d e lt. each i d e (before_or_at i (length xs) (omega (arith, size)))) where
  size : length (xs ++ x ∷ []) ≡ length xs + 1
  size = length-append xs (x ∷ [])

  sizes : length (ys ++ y ∷ []) ≡ length (xs ++ x ∷ [])
  sizes = length-append ys (y ∷ []) ∙ ap (λ n. n + 1) so_far.0 ∙ sym (length-append xs (x ∷ []))

  at_end : (n : ℕ) (d : X) (e : Y) → n ≡ length ys → says (take (length xs) (xs ++ x ∷ [])) (get_or (xs ++ x ∷ []) (length xs) d) (Ok (get_or (ys ++ y ∷ []) n e))
  at_end n d e is = rw (is, front_is xs (x ∷ []), get_or-append_seam xs x [] d, get_or-append_seam ys y [] e) here

  each : (i : ℕ) (d : X) (e : Y) → (i < length xs) ⊎ (i ≡ length xs) → says (take i (xs ++ x ∷ [])) (get_or (xs ++ x ∷ []) i d) (Ok (get_or (ys ++ y ∷ []) i e))
  each i d e (inl lt) =
      let le : i ≤ length xs = omega arith in
      let lt' : i < length ys = omega (arith, so_far.0) in
      rw (take-front i xs (x ∷ []) le, get_or_append_left xs (x ∷ []) d i lt, get_or_append_left ys (y ∷ []) e i lt') (so_far.1 i d e lt)
  each i d e (inr is) = rw is (at_end (length xs) d e (sym so_far.0))

-- a fault behind items that give their parts
pub InTurn-stop : {X Y F : Type 0} (says : List X → X → Result Y F → Type 0) (xs zs : List X) (ys : List Y) (x : X) (f : F) → AllGive says xs ys → says xs x (Err f) → InTurn says (xs ++ x ∷ zs) (Err f)
InTurn-stop says xs zs ys x f so_far here =
    let size : length (xs ++ x ∷ zs) ≡ length xs + suc (length zs) = length-append xs (x ∷ zs) in
    let front = front_is xs (x ∷ zs) in
    let seam = get_or-append_seam xs x zs x in
    (length xs, x, omega (arith, size), rw (front, seam) here, ys, rw front so_far)

-- ---- the items that a function finds in a list

one_more : {X Z : Type 0} (part : Z → Option X) (zs : List Z) (i : ℕ) (z : Z) → i < length zs → z ≡ get_or zs i z → take (i + 1) zs ≡ take i zs ++ z ∷ []
one_more part zs i z lt is = take_more zs i z lt ∙ ap (λ w. take i zs ++ w ∷ []) (sym is)

pub found_more : {X Z : Type 0} (part : Z → Option X) (zs : List Z) (i : ℕ) (z : Z) (x : X) → i < length zs → z ≡ get_or zs i z → part z ≡ Some x → filter_map part (take (i + 1) zs) ≡ filter_map part (take i zs) ++ x ∷ []
found_more part zs i z x lt is here = rw (one_more part zs i z lt is) (filter_map-append part (take i zs) (z ∷ []) ∙ rw here refl)

pub found_no_more : {X Z : Type 0} (part : Z → Option X) (zs : List Z) (i : ℕ) (z : Z) → i < length zs → z ≡ get_or zs i z → part z ≡ None → filter_map part (take (i + 1) zs) ≡ filter_map part (take i zs)
found_no_more part zs i z lt is here = rw (one_more part zs i z lt is) (filter_map-append part (take i zs) (z ∷ []) ∙ rw here (append-nil (filter_map part (take i zs))))

pub found_all : {X Z : Type 0} (part : Z → Option X) (zs : List Z) (i : ℕ) (z : Z) (x : X) → i < length zs → z ≡ get_or zs i z → part z ≡ Some x → filter_map part zs ≡ filter_map part (take i zs) ++ x ∷ filter_map part (drop (i + 1) zs)
found_all part zs i z x lt is here =
    sym (ap (filter_map part) (take-append-drop (i + 1) zs)) ∙ filter_map-append part (take (i + 1) zs) (drop (i + 1) zs) ∙ rw (found_more part zs i z x lt is here) (append_assoc (filter_map part (take i zs)) (x ∷ []) (filter_map part (drop (i + 1) zs)))
