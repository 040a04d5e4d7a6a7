-- The first fault of items in their order: how it grows with the items, and that it is the first.
use Rattle.std.proofs.Common.{◌≡◌, ℕ, ◌+◌, ◌<◌, List, [], ◌∷◌, ◌++◌, length, take, drop, get_or, Option, Some, None, refl, sym, ap, ◌∙◌, append_assoc}
use Rattle.std.specs.Option.{option_or}
use Rattle.std.proofs.lemmas.List.{append-nil, take-append-drop, take_more}
use Rattle.lgc_spec.specs.InOrder.{first_fault_behind, first_fault}

option_or-none : {F : Type 0} → (o : Option F) → option_or o None ≡ o
option_or-none None = refl
option_or-none (Some f) = refl

option_or_assoc : {F : Type 0} → (a b c : Option F) → option_or a (option_or b c) ≡ option_or (option_or a b) c
option_or_assoc None b c = refl
option_or_assoc (Some f) b c = refl

pub first_fault_behind-append : {X F : Type 0} (fault : List X → X → Option F) (before xs ys : List X) → first_fault_behind fault before (xs ++ ys) ≡ option_or (first_fault_behind fault before xs) (first_fault_behind fault (before ++ xs) ys)
unfolding first_fault_behind
first_fault_behind-append fault before [] ys = rw append-nil refl
first_fault_behind-append fault before (x ∷ xs) ys =
    let rest = first_fault_behind-append fault (before ++ x ∷ []) xs ys in
    let same : (before ++ x ∷ []) ++ xs ≡ before ++ x ∷ xs = append_assoc before (x ∷ []) xs in
    rw (rest, same) (option_or_assoc (fault before x) (first_fault_behind fault (before ++ x ∷ []) xs) (first_fault_behind fault (before ++ x ∷ xs) ys))

pub first_fault_push : {X F : Type 0} (fault : List X → X → Option F) (xs : List X) (x : X) → first_fault fault (xs ++ x ∷ []) ≡ option_or (first_fault fault xs) (fault xs x)
unfolding first_fault_behind
first_fault_push fault xs x = first_fault_behind-append fault [] xs (x ∷ []) ∙ ap (option_or (first_fault fault xs)) (option_or-none (fault xs x))

pub first_fault_more : {X F : Type 0} (fault : List X → X → Option F) (xs : List X) (i : ℕ) (d : X) → i < length xs → first_fault fault (take (i + 1) xs) ≡ option_or (first_fault fault (take i xs)) (fault (take i xs) (get_or xs i d))
first_fault_more fault xs i d lt = rw (take_more xs i d lt) (first_fault_push fault (take i xs) (get_or xs i d))

-- a fault among the first items is the fault of all
pub first_fault_kept : {X F : Type 0} (fault : List X → X → Option F) (xs : List X) (i : ℕ) (f : F) → first_fault fault (take i xs) ≡ Some f → first_fault fault xs ≡ Some f
first_fault_kept fault xs i f e =
    let split : first_fault fault (take i xs ++ drop i xs) ≡ first_fault fault xs = ap (first_fault fault) (take-append-drop i xs) in
    sym split ∙ first_fault_behind-append fault [] (take i xs) (drop i xs) ∙ ap (λ o. option_or o (first_fault_behind fault (take i xs) (drop i xs))) e

-- the first items have no fault, and the next one has
pub first_fault_found : {X F : Type 0} (fault : List X → X → Option F) (xs : List X) (i : ℕ) (d : X) (f : F) → i < length xs → first_fault fault (take i xs) ≡ None → fault (take i xs) (get_or xs i d) ≡ Some f → first_fault fault xs ≡ Some f
first_fault_found fault xs i d f lt none here =
    first_fault_kept fault xs (i + 1) f (first_fault_more fault xs i d lt ∙ rw (none, here) refl)

-- ---- the first fault is what its law says

none_parts : {F : Type 0} (a b : Option F) → option_or a b ≡ None → (a ≡ None) × (b ≡ None)
none_parts None b e = (refl, e)
none_parts (Some f) b e = cc

pub none_behind : {X F : Type 0} (fault : List X → X → Option F) (start xs : List X) → first_fault_behind fault start xs ≡ None → (before after : List X) (x : X) → xs ≡ before ++ x ∷ after → fault (start ++ before) x ≡ None
unfolding first_fault_behind
none_behind fault start [] none [] after x e = cc
none_behind fault start [] none (b ∷ before) after x e = cc
none_behind fault start (y ∷ ys) none [] after x e =
    let here = none_parts (fault start y) (first_fault_behind fault (start ++ y ∷ []) ys) none in
    let same : y ≡ x = cc in
    rw (append-nil, ← same) here.0
none_behind fault start (y ∷ ys) none (b ∷ before) after x e =
    let here = none_parts (fault start y) (first_fault_behind fault (start ++ y ∷ []) ys) none in
    let same : y ≡ b = cc in
    let rest : ys ≡ before ++ x ∷ after = cc in
    let place : (start ++ y ∷ []) ++ before ≡ start ++ y ∷ before = append_assoc start (y ∷ []) before in
    rw (← same) (rw place at (none_behind fault (start ++ y ∷ []) ys here.1 before after x rest))
