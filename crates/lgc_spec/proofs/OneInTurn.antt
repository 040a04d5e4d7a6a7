-- Items that give their parts in turn have one answer, where each item has one.
use Rattle.std.proofs.Common.{◌≡◌, ℕ, ◌<◌, ◌≤◌, List, [], ◌∷◌, length, take, get_or, All, Result, Ok, Err, sym, ◌∙◌, ⊎_elim, arith}
use Rattle.std.proofs.lemmas.Bool.{cases_order}
use Rattle.std.proofs.lemmas.List.{same_lists, length-take-le, take-take, get_or-take, get_or_default}
use Rattle.lgc_spec.specs.InOrder.{AllGive, InTurn}
use Rattle.lgc_spec.proofs.OneAnswer.{OneAnswer}

-- cases on two numbers
pub by_order : {R : Type 0} (a b : ℕ) → (a ≡ b → R) → (a < b → R) → (b < a → R) → R
by_order a b equal below above = ⊎_elim equal (λ order. ⊎_elim below above order) (cases_order a b)

-- some item of a list that has one
an_item : {Z : Type 0} (zs : List Z) (k : ℕ) → k < length zs → Z
an_item [] k lt = absurd (omega arith)
an_item (z ∷ zs) k lt = z

-- what holds of each part that an item gives holds of all parts
pub parts_are : {X Y F : Type 0} (says : List X → X → Result Y F → Type 0) (P : Y → Type 0) → ((before : List X) (x : X) (y : Y) → says before x (Ok y) → P y) → (xs : List X) (ys : List Y) → AllGive says xs ys → All P ys
parts_are says P each xs ys all k d lt =
    let within : k < length xs = omega (arith, all.0, lt) in
    let x = an_item xs k within in
    each (take k xs) (get_or xs k x) (get_or ys k d) (all.1 k x d within)

module _ {X Y F : Type 0} (says : List X → X → Result Y F → Type 0) (once : (before : List X) (x : X) → OneAnswer (says before x)) where
  one_part : (before : List X) (x : X) (y z : Y) → says before x (Ok y) → says before x (Ok z) → y ≡ z
  one_part before x y z h g = let same = once before x (Ok y) (Ok z) h g in cc

  one_fault : (before : List X) (x : X) (f e : F) → says before x (Err f) → says before x (Err e) → f ≡ e
  one_fault before x f e h g = let same = once before x (Err f) (Err e) h g in cc

  part_or_fault : (before : List X) (x : X) (y : Y) (f : F) → says before x (Ok y) → says before x (Err f) → ⊥
  part_or_fault before x y f h g = let same = once before x (Ok y) (Err f) h g in cc

  all_once : (xs : List X) (ys zs : List Y) → AllGive says xs ys → AllGive says xs zs → ys ≡ zs
  all_once xs ys zs h g = same_lists ys zs (h.0 ∙ sym g.0) (λ k d lt.
      let within : k < length xs = omega (arith, h.0, lt) in
      let x = an_item xs k within in
      one_part (take k xs) (get_or xs k x) (get_or ys k d) (get_or zs k d) (h.1 k x d within) (g.1 k x d within))

  -- where an item has a fault not all give their parts
  all_or_fault : (xs : List X) (ys : List Y) (i : ℕ) (x : X) (f : F) → i < length xs → AllGive says xs ys → says (take i xs) (get_or xs i x) (Err f) → ⊥
  all_or_fault xs ys i x f lt all fault =
      let y = an_item ys i (omega (arith, all.0, lt)) in
      part_or_fault (take i xs) (get_or xs i x) (get_or ys i y) f (all.1 i x y lt) fault

  -- and so no item behind it is the first with a fault
  none_behind : (xs : List X) (ys : List Y) (i j : ℕ) (x : X) (f : F) → i < j → j < length xs → AllGive says (take j xs) ys → says (take i xs) (get_or xs i x) (Err f) → ⊥
  none_behind xs ys i j x f lt within all fault =
      let size : length (take j xs) ≡ j = length-take-le j xs (omega arith) in
      let le : i ≤ j = omega arith in
      all_or_fault (take j xs) ys i x f (omega (arith, size, lt)) all (rw (take-take i j xs le, get_or-take j xs i x lt) fault)

  first_once : (xs : List X) (f e : F) → InTurn says xs (Err f) → InTurn says xs (Err e) → f ≡ e
  first_once xs f e (i, x, lt, here, ys, all) (j, y, lt', there, zs, all') = by_order i j
      (λ same.
      let moved : says (take i xs) (get_or xs i y) (Err e) = rw same there in
      one_fault (take i xs) (get_or xs i x) f e here (rw (get_or_default xs i x y lt) moved))
      (λ before. absurd (none_behind xs zs i j x f before lt' all' here))
      (λ behind. absurd (none_behind xs ys j i y e behind lt all there))

  pub in_turn_once : (xs : List X) → OneAnswer (InTurn says xs)
  in_turn_once xs (Ok ys) (Ok zs) h g = let same = all_once xs ys zs h g in cc
  in_turn_once xs (Ok ys) (Err e) h (i, x, lt, fault, zs, all) = absurd (all_or_fault xs ys i x e lt h fault)
  in_turn_once xs (Err f) (Ok zs) (i, x, lt, fault, ys, all) g = absurd (all_or_fault xs zs i x f lt g fault)
  in_turn_once xs (Err f) (Err e) h g = let same = first_once xs f e h g in cc
