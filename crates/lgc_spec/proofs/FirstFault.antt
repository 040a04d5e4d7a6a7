-- The first fault of items is the fault of one of them, and none before it has one.
use Rattle.std.proofs.Common.{◌≡◌, List, [], ◌∷◌, ◌++◌, Option, Some, None, refl, ap, ◌∙◌, append_assoc}
use Rattle.std.specs.Option.{option_or}
use Rattle.std.proofs.lemmas.List.{append-nil}
use Rattle.lgc_spec.specs.InOrder.{first_fault_behind, first_fault, IsFirst}
use Rattle.lgc_spec.proofs.InOrderLaws.{none_behind}

pub record Found {X F : Type 0} (fault : List X → X → Option F) (start xs : List X) (f : F) : Type 0 where
  pub before : List X
  pub after : List X
  pub item : X
  pub split : xs ≡ before ++ item ∷ after
  pub fails : fault (start ++ before) item ≡ Some f
  pub none : (b a : List X) (x : X) → before ≡ b ++ x ∷ a → fault (start ++ b) x ≡ None

found_here : {X F : Type 0} (fault : List X → X → Option F) (start ys : List X) (y : X) (f : F) → fault start y ≡ Some f → Found fault start (y ∷ ys) f
found_here {X = X} {F = F} fault start ys y f h = record { before = []; after = ys; item = y; split = refl; fails = rw append-nil h; none = nothing_before } where
  nothing_before : (b a : List X) (x : X) → [] ≡ b ++ x ∷ a → fault (start ++ b) x ≡ None
  nothing_before [] a x e = cc
  nothing_before (z ∷ b) a x e = cc

found_later : {X F : Type 0} (fault : List X → X → Option F) (start ys : List X) (y : X) (f : F) → fault start y ≡ None → Found fault (start ++ y ∷ []) ys f → Found fault start (y ∷ ys) f
found_later {X = X} {F = F} fault start ys y f h r = record {
  before = y ∷ r.before;
  after = r.after;
  item = r.item;
  split = ap (λ zs. y ∷ zs) r.split;
  fails = rw (append_assoc start (y ∷ []) r.before) at r.fails;
  none = none_before;
} where
  none_before : (b a : List X) (x : X) → y ∷ r.before ≡ b ++ x ∷ a → fault (start ++ b) x ≡ None
  none_before [] a x e = let same : y ≡ x = cc in rw (append-nil, ← same) h
  none_before (z ∷ b) a x e =
      let same : y ≡ z = cc in
      let rest : r.before ≡ b ++ x ∷ a = cc in
      rw (← same) (rw (append_assoc start (y ∷ []) b) at (r.none b a x rest))

found_behind : {X F : Type 0} (fault : List X → X → Option F) (start xs : List X) (f : F) → first_fault_behind fault start xs ≡ Some f → Found fault start xs f
unfolding first_fault_behind
found_behind fault start [] f e = cc
found_behind {X = X} {F = F} fault start (y ∷ ys) f e = step (fault start y) refl (λ k. found_behind fault (start ++ y ∷ []) ys f k) e where
  step : (o : Option F) → fault start y ≡ o → (first_fault_behind fault (start ++ y ∷ []) ys ≡ Some f → Found fault (start ++ y ∷ []) ys f) → option_or o (first_fault_behind fault (start ++ y ∷ []) ys) ≡ Some f → Found fault start (y ∷ ys) f
  step (Some g) h later k = found_here fault start ys y f (h ∙ k)
  step None h later k = found_later fault start ys y f h (later k)

pub first_fault_law : {X F : Type 0} (fault : List X → X → Option F) (xs : List X) → IsFirst fault xs (first_fault fault xs)
first_fault_law {X = X} {F = F} fault xs = cases (first_fault fault xs) refl where
  cases : (found : Option F) → first_fault fault xs ≡ found → IsFirst fault xs found
  cases None e = λ before after x split. none_behind fault [] xs e before after x split
  cases (Some f) e =
      let r : Found fault [] xs f = found_behind fault [] xs f e in
      (r.before, r.after, r.item, r.split, r.fails, λ before after x split. r.none before after x split)
