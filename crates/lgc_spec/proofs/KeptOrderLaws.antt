-- The order that the reader keeps under a name is that of the ordering with this name.
use Rattle.std.proofs.Common.{◌≡◌, ℕ, zero, suc, ◌+◌, ◌*◌, ◌/◌, ◌%◌, ◌<◌, ◌≤◌, Bool, true, false, cond, List, [], ◌∷◌, All, find, length, get_or, Option, Some, None, Result, Ok, Err, not, refl, ap, arith}
use Rattle.std.specs.Prelude.{nat_lt, position}
use Rattle.std.specs.Str.{bytes_eq}
use Rattle.std.specs.List.{position_or_len}
use Rattle.std.proofs.Math.Nat.{mod-lt, div-lt_iff_lt-mul}
use Rattle.std.proofs.lemmas.Bool.Decides.{nat_tests}
use Rattle.lgc_orders.specs.Order.{Leads, Below, IsOfLinks}
use Rattle.lgc_orders.proofs.BoundLaws.{Agree, Agree-turned, IsInf-alike, IsSup-alike}
use Rattle.lgc_parser.specs.declared.tree.Word.{Word}
use Rattle.lgc_spec.specs.declared.fault.SpecFault.{SpecFault}
use Rattle.lgc_spec.specs.declared.fault.SpecFault.TheVariants.{Fault, Memory}
use Rattle.lgc_spec.specs.declared.orderings.NamedOrder.{NamedOrder}
use Rattle.lgc_spec.specs.Faults.{Answers, fault_at}
use Rattle.lgc_spec.specs.Words.{text_of}
use Rattle.lgc_spec.specs.Orderings.{Ordered}
use Rattle.lgc_spec.specs.KeptOrders.{IsKept, AreKept}
use Rattle.lgc_spec.specs.Bounds.{IsBound, HasBound, BoundsGive, BoundGives, ordering_named}

-- what is said of each answer may be said in other words
pub Answers-alike : {X : Type 0} (says says' : Result X SpecFault → Type 0) (told : Result X SpecFault) → ((t : Result X SpecFault) → says t → says' t) → Answers says told → Answers says' told
Answers-alike says says' (Ok x) to h = to (Ok x) h
Answers-alike says says' (Err Memory) to h = h
Answers-alike says says' (Err (Fault number offset kept)) to h = to (Err (Fault number offset kept)) h

-- the two arguments of a row are values
row_parts : (n row : ℕ) → row < n * n → (row / n < n) × (row % n < n)
row_parts zero row lt = omega arith
row_parts (suc m) row lt = let some : 0 < suc m = omega arith in ((div-lt_iff_lt-mul some).1 lt, mod-lt row some)

IsBound-alike : (n : ℕ) (le le' : ℕ → ℕ → Type 0) → Agree n le le' → (lower : Bool) (a b c : ℕ) → a < n → b < n → IsBound lower n le a b c → IsBound lower n le' a b c
IsBound-alike n le le' same true a b c la lb h = IsInf-alike n le le' same a b c la lb h
IsBound-alike n le le' same false a b c la lb h = IsSup-alike n le le' same a b c la lb h

HasBound-alike : (n : ℕ) (le le' : ℕ → ℕ → Type 0) → Agree n le le' → (lower : Bool) (row : ℕ) → row < n * n → HasBound lower n le row → HasBound lower n le' row
HasBound-alike n le le' same lower row lt h = let p = row_parts n row lt in (h.0, IsBound-alike n le le' same lower (row / n) (row % n) h.0 p.0 p.1 h.1)

-- relations that agree on the values give the same bounds
pub BoundsGive-alike : (lower : Bool) (names : List (List ℕ)) (at : ℕ) (le le' : ℕ → ℕ → Type 0) → Agree (length names) le le' → (told : Result (List ℕ) SpecFault) → BoundsGive lower names at le told → BoundsGive lower names at le' told
BoundsGive-alike lower names at le le' same (Ok table) h =
    (h.0, λ row lt. let p = row_parts (length names) row lt in IsBound-alike (length names) le le' same lower (row / length names) (row % length names) (get_or table row 0) p.0 p.1 (h.1 row lt))
BoundsGive-alike lower names at le le' same (Err fault) (row, lt, none, before, is) =
    (row, lt, (λ has. none (HasBound-alike (length names) le' le (Agree-turned (length names) le le' same) lower row lt has)), (λ r l. HasBound-alike (length names) le le' same lower r (omega arith) (before r l)), is)

-- the orders of orderings are as large as there are values
pub sizes_of_kept : (bytes : List ℕ) (n : ℕ) (orders : List NamedOrder) (orderings : List Ordered) → AreKept bytes n orders orderings → All (λ o. o.order.size ≡ n) orders
sizes_of_kept bytes n [] orderings kept k d lt = omega arith
sizes_of_kept bytes n (x ∷ orders) [] kept k d lt = absurd kept
sizes_of_kept bytes n (x ∷ orders) (o ∷ orderings) kept zero d lt = kept.0.linked.size_is
sizes_of_kept bytes n (x ∷ orders) (o ∷ orderings) kept (suc k) d lt = sizes_of_kept bytes n orders orderings kept.1 k d (omega arith)

-- ---- the order under a name

-- the place of the first order with a name
abbrev place_of : List ℕ → List ℕ → List NamedOrder → ℕ
place_of bytes text orders = position_or_len (λ o. bytes_eq (text_of bytes o.name) text) orders

-- the ordering of a kept order
record KeptAs (bytes : List ℕ) (n : ℕ) (kept : NamedOrder) (found : Option Ordered) : Type 0 where
  pub ordered : Ordered
  pub is : found ≡ Some ordered
  pub kept_as : IsKept bytes n kept ordered

-- the order at the first place with a name is that of the ordering with this name
found_kept : (bytes : List ℕ) (n : ℕ) (text : List ℕ) (orders : List NamedOrder) (orderings : List Ordered) → AreKept bytes n orders orderings → (place : ℕ) (d : NamedOrder) → place ≡ place_of bytes text orders → place < length orders → KeptAs bytes n (get_or orders place d) (find (λ o. bytes_eq o.name text) orderings)
found_kept bytes n text [] orderings kept place d is lt = absurd (omega arith)
found_kept bytes n text (x ∷ orders) [] kept place d is lt = absurd kept
found_kept bytes n text (x ∷ orders) (o ∷ orderings) kept place d is lt =
    step (bytes_eq (text_of bytes x.name) text) (ap (λ name. bytes_eq name text) kept.0.named) place is lt (λ l. found_kept bytes n text orders orderings kept.1 (place_of bytes text orders) d refl l) where
      step : (here : Bool) → here ≡ bytes_eq o.name text → (at : ℕ) → at ≡ cond (not here) (1 + place_of bytes text orders) 0 → at < suc (length orders) → (place_of bytes text orders < length orders → KeptAs bytes n (get_or orders (place_of bytes text orders) d) (find (λ o. bytes_eq o.name text) orderings)) → KeptAs bytes n (get_or (x ∷ orders) at d) (cond (bytes_eq o.name text) (Some o) (find (λ o. bytes_eq o.name text) orderings))
      step true h at e l later = rw (← h, e) (record { ordered = o; is = refl; kept_as = kept.0 })
      step false h at e l later =
          let next : at ≡ suc (place_of bytes text orders) = omega arith in
          rw (← h, next) (later (omega arith))

-- a name that no order has is that of no ordering
not_kept : (bytes : List ℕ) (n : ℕ) (text : List ℕ) (orders : List NamedOrder) (orderings : List Ordered) → AreKept bytes n orders orderings → length orders ≤ place_of bytes text orders → find (λ o. bytes_eq o.name text) orderings ≡ None
not_kept bytes n text [] [] kept none = refl
not_kept bytes n text [] (o ∷ orderings) kept none = absurd kept
not_kept bytes n text (x ∷ orders) [] kept none = refl
not_kept bytes n text (x ∷ orders) (o ∷ orderings) kept none =
    step (bytes_eq (text_of bytes x.name) text) (ap (λ name. bytes_eq name text) kept.0.named) none (λ l. not_kept bytes n text orders orderings kept.1 l) where
      step : (here : Bool) → here ≡ bytes_eq o.name text → suc (length orders) ≤ cond (not here) (1 + place_of bytes text orders) 0 → (length orders ≤ place_of bytes text orders → find (λ o. bytes_eq o.name text) orderings ≡ None) → cond (bytes_eq o.name text) (Some o) (find (λ o. bytes_eq o.name text) orderings) ≡ None
      step true h l later = absurd (omega arith)
      step false h l later = rw (← h) (later (omega arith))

pub place_is : (b : Bool) (place k : ℕ) → Some place ≡ cond b (Some k) None → place ≡ k
place_is true place k e = cc
place_is false place k e = cc

pub place_past : (k n : ℕ) → None ≡ cond (nat_lt k n) (Some k) None → n ≤ k
place_past k n e = grind (arith, nat_tests)

-- the bounds of a kept order are those of the ordering's links
pub bound_kept : (bytes : List ℕ) (names : List (List ℕ)) (orders : List NamedOrder) (at : ℕ) (lower : Bool) (w : Word) (text : List ℕ) (place : ℕ) (order : NamedOrder) (arity : ℕ) (told : Result (List ℕ) SpecFault) → arity ≡ 2 → text ≡ text_of bytes w → Some place ≡ position (λ o. bytes_eq (text_of bytes o.name) text) orders → place < length orders → Answers (BoundsGive lower names at (Below (get_or orders place order).order)) told → (orderings : List Ordered) → AreKept bytes (length names) orders orderings → Answers (BoundGives bytes names orderings arity at lower w) told
bound_kept bytes names orders at lower w text place order arity told two e found below h orderings kept =
    let here : place ≡ place_of bytes text orders = place_is (nat_lt (place_of bytes text orders) (length orders)) place (place_of bytes text orders) found in
    let k = found_kept bytes (length names) text orders orderings kept place order here below in
    let linked : IsOfLinks (length names) k.ordered.links (get_or orders place order).order = k.kept_as.linked in
    let named : ordering_named bytes orderings w ≡ Some k.ordered = rw (← e) k.is in
    rw (two, named) (Answers-alike (BoundsGive lower names at (Below (get_or orders place order).order)) (BoundsGive lower names at (Leads k.ordered.links)) told (λ t s. BoundsGive-alike lower names at (Below (get_or orders place order).order) (Leads k.ordered.links) linked.leads t s) h)

-- no ordering has the name
pub bound_unknown : (bytes : List ℕ) (names : List (List ℕ)) (orders : List NamedOrder) (at : ℕ) (lower : Bool) (w : Word) (text : List ℕ) (arity : ℕ) (fault : SpecFault) → arity ≡ 2 → text ≡ text_of bytes w → None ≡ position (λ o. bytes_eq (text_of bytes o.name) text) orders → fault ≡ fault_at 18 w.at → (orderings : List Ordered) → AreKept bytes (length names) orders orderings → Answers (BoundGives bytes names orderings arity at lower w) (Err fault)
bound_unknown bytes names orders at lower w text arity fault two e none is orderings kept =
    let past = place_past (place_of bytes text orders) (length orders) none in
    let named : ordering_named bytes orderings w ≡ None = rw (← e) (not_kept bytes (length names) text orders orderings kept past) in
    rw (is, two, named) refl
