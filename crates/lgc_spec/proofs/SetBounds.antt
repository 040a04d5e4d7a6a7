-- The bound of a set is the fold of the bounds of two values.
use Rattle.std.proofs.Common.{◌≡◌, ℕ, ◌==◌, ◌+◌, ◌-◌, ◌*◌, ◌/◌, ◌%◌, ◌^◌, ◌<◌, Bool, true, false, List, [], ◌∷◌, ◌++◌, length, get_or, fold, All, Result, Ok, Err, refl, ap, subst, ◌∙◌, arith, append_assoc}
use Rattle.std.specs.List.{range_with_len}
use Rattle.std.specs.Int.{bit_at}
use Rattle.std.proofs.lemmas.Nat.{mul-add-lt, div-mul-add, mod-mul-add}
use Rattle.std.proofs.lemmas.List.{append-nil, length-map, get_or-map}
use Rattle.std.proofs.lemmas.List.Elements.{All-nil, All-cons, All-head, All-tail, All-push, All-filter}
use Rattle.std.proofs.lemmas.List.FromFn.{length-range_with_len, get_or-range_with_len, length-map-range_with_len}
use Rattle.lgc_values.specs.Values.{members_of, mask_of}
use Rattle.lgc_values.specs.Masks.{mask_of-members_of}
use Rattle.lgc_orders.specs.Order.{Leads, IsInf, IsSup}
use Rattle.lgc_orders.specs.Order.Leads.{here, along}
use Rattle.lgc_parser.specs.declared.tree.Word.{Word}
use Rattle.lgc_spec.specs.declared.fault.SpecFault.{SpecFault}
use Rattle.lgc_spec.specs.declared.fault.SpecFault.TheVariants.{Fault, Memory}
use Rattle.lgc_spec.specs.Faults.{Answers, Follows}
use Rattle.lgc_spec.specs.Sets.{nonempty_sets, table_over}
use Rattle.lgc_spec.specs.Folds.{applied, folded}
use Rattle.lgc_spec.specs.Orderings.{Ordered}
use Rattle.lgc_spec.specs.Bounds.{IsBound, IsSetInf, IsSetSup, IsSetBound, BoundsGive, BoundGives, SetBoundsGive, SetBoundGives, found, ordering_named}

-- ---- the members of a set

range_below : (a n m : ℕ) → a + n ≡ m → All (λ v. v < m) (range_with_len a n)
range_below a n m e k d lt =
    let size : length (range_with_len a n) ≡ n = length-range_with_len a n in
    rw (get_or-range_with_len a n k d (omega arith)) (omega arith)

pub members_below : (n mask : ℕ) → All (λ v. v < n) (members_of n mask)
members_below n mask = All-filter (λ v. bit_at mask v == 1) (λ v. v < n) (range_with_len 0 n) (range_below 0 n n (omega arith))

pub some_member : (n mask : ℕ) → 0 < mask → mask < 2 ^ n → members_of n mask ≡ [] → ⊥
some_member n mask some below none =
    let is : mask_of (members_of n mask) ≡ mask = mask_of-members_of n mask below in
    let empty : 0 ≡ mask = rw none at is in
    omega arith

-- ---- the entry of a table over sets

pub length-nonempty_sets : (n : ℕ) → length (nonempty_sets n) ≡ 2 ^ n - 1
length-nonempty_sets n = length-map-range_with_len (λ index. members_of n (index + 1)) 0 (2 ^ n - 1)

pub table_entry : (n index : ℕ) (value : List ℕ → ℕ) → index < 2 ^ n - 1 → get_or (table_over n value) index 0 ≡ value (members_of n (index + 1))
table_entry n index value lt =
    let sets : length (nonempty_sets n) ≡ 2 ^ n - 1 = length-nonempty_sets n in
    let size : length (range_with_len 0 (2 ^ n - 1)) ≡ 2 ^ n - 1 = length-range_with_len 0 (2 ^ n - 1) in
    let place : get_or (range_with_len 0 (2 ^ n - 1)) index 0 ≡ 0 + index = get_or-range_with_len 0 (2 ^ n - 1) index 0 lt in
    let same : 0 + index ≡ index = omega arith in
    get_or-map value (nonempty_sets n) index [] 0 (omega arith)
    ∙ ap value (get_or-map (λ i. members_of n (i + 1)) (range_with_len 0 (2 ^ n - 1)) index 0 [] (omega arith) ∙ ap (λ i. members_of n (i + 1)) (place ∙ same))

-- ---- lower bounds

module _ (n : ℕ) (le : ℕ → ℕ → Type 0) (same : (a : ℕ) → a < n → le a a) (chain : (a b c : ℕ) → le a b → le b c → le a c) where
  inf_of_one : (v : ℕ) → v < n → IsSetInf n le (v ∷ []) v
  inf_of_one v lt = record { within = lt; bound = All-cons (λ w. le v w) v [] (same v lt) (All-nil (λ w. le v w)); greatest = λ d ld all. All-head (λ w. le d w) v [] all }

  inf_push : (set : List ℕ) (c v d : ℕ) → IsSetInf n le set c → IsInf n le c v d → IsSetInf n le (set ++ v ∷ []) d
  inf_push set c v d inf two = record {
    within = two.within;
    bound = All-push (λ w. le d w) set v (λ k e lt. chain d c (get_or set k e) two.bound.0 (inf.bound k e lt)) two.bound.1;
    greatest = λ x lx all. two.greatest x lx (inf.greatest x lx (front x set v all), last x set v all);
  } where
    front : (x : ℕ) (set : List ℕ) (v : ℕ) → All (λ w. le x w) (set ++ v ∷ []) → All (λ w. le x w) set
    front x [] v all = All-nil (λ w. le x w)
    front x (w ∷ set) v all = All-cons (λ u. le x u) w set (All-head (λ u. le x u) w (set ++ v ∷ []) all) (front x set v (All-tail (λ u. le x u) w (set ++ v ∷ []) all))

    last : (x : ℕ) (set : List ℕ) (v : ℕ) → All (λ w. le x w) (set ++ v ∷ []) → le x v
    last x [] v all = All-head (λ w. le x w) v [] all
    last x (w ∷ set) v all = last x set v (All-tail (λ u. le x u) w (set ++ v ∷ []) all)

  module _ (op : ℕ → ℕ → ℕ) (infs : (a b : ℕ) → a < n → b < n → IsInf n le a b (op a b)) where
    inf_behind : (set : List ℕ) (c : ℕ) (more : List ℕ) → IsSetInf n le set c → All (λ v. v < n) more → IsSetInf n le (set ++ more) (fold op c more)
    inf_behind set c [] inf all = rw (append-nil set) inf
    inf_behind set c (v ∷ more) inf all =
        let next : IsSetInf n le (set ++ v ∷ []) (op c v) = inf_push set c v (op c v) inf (infs c v inf.within (All-head (λ w. w < n) v more all)) in
        let split : (set ++ v ∷ []) ++ more ≡ set ++ v ∷ more = append_assoc set (v ∷ []) more in
        subst (λ s. IsSetInf n le s (fold op (op c v) more)) split (inf_behind (set ++ v ∷ []) (op c v) more next (All-tail (λ w. w < n) v more all))

    pub fold_is_inf : (set : List ℕ) → (set ≡ [] → ⊥) → All (λ v. v < n) set → IsSetInf n le set (folded op set)
    fold_is_inf [] some all = absurd (some refl)
    fold_is_inf (v ∷ set) some all = inf_behind (v ∷ []) v set (inf_of_one v (All-head (λ w. w < n) v set all)) (All-tail (λ w. w < n) v set all)

-- ---- both bounds

-- an upper bound is a lower one in the order that is turned around
turned : (n : ℕ) (le : ℕ → ℕ → Type 0) (a b c : ℕ) → IsSup n le a b c → IsInf n (λ x y. le y x) a b c
turned n le a b c sup = record { within = sup.within; bound = sup.bound; greatest = sup.least }

turned_back : (n : ℕ) (le : ℕ → ℕ → Type 0) (set : List ℕ) (c : ℕ) → IsSetInf n (λ x y. le y x) set c → IsSetSup n le set c
turned_back n le set c inf = record { within = inf.within; bound = inf.bound; least = inf.greatest }

fold_is_bound : (lower : Bool) (n : ℕ) (le : ℕ → ℕ → Type 0) → ((a : ℕ) → a < n → le a a) → ((a b c : ℕ) → le a b → le b c → le a c) → (op : ℕ → ℕ → ℕ) → ((a b : ℕ) → a < n → b < n → IsBound lower n le a b (op a b)) → (set : List ℕ) → (set ≡ [] → ⊥) → All (λ v. v < n) set → IsSetBound lower n le set (folded op set)
fold_is_bound true n le same chain op bounds set some all = fold_is_inf n le same chain op bounds set some all
fold_is_bound false n le same chain op bounds set some all =
    turned_back n le set (folded op set) (fold_is_inf n (λ x y. le y x) same (λ a b c f g. chain c b a g f) op (λ a b la lb. turned n le a b (op a b) (bounds a b la lb)) set some all)

-- ---- the bounds of an ordering

leads_on : (links : List (ℕ × ℕ)) (a b c : ℕ) → Leads links a b → Leads links b c → Leads links a c
leads_on links a b c here next = next
leads_on links a b c (along {b = m} link rest) next = along link (leads_on links m b c rest next)

-- the bound of two values in the table of all pairs
pair_bound : (lower : Bool) (n : ℕ) (le : ℕ → ℕ → Type 0) (pairs : List ℕ) → ((row : ℕ) → row < n * n → IsBound lower n le (row / n) (row % n) (get_or pairs row 0)) → (a b : ℕ) → a < n → b < n → IsBound lower n le a b (applied n pairs a b)
pair_bound lower n le pairs bounds a b la lb =
    let within : a * n + b < n * n = mul-add-lt a n b n la lb in
    let first : (a * n + b) / n ≡ a = div-mul-add a n b lb in
    let second : (a * n + b) % n ≡ b = mod-mul-add a n b lb in
    let two : IsBound lower n le ((a * n + b) / n) ((a * n + b) % n) (get_or pairs (a * n + b) 0) = bounds (a * n + b) within in
    rw (first, second) at two

pub set_bounds : (lower : Bool) (names : List (List ℕ)) (at : ℕ) (links : List (ℕ × ℕ)) (pairs sets : List ℕ) → sets ≡ table_over (length names) (folded (applied (length names) pairs)) → BoundsGive lower names at (Leads links) (Ok pairs) → SetBoundsGive lower names at (Leads links) (Ok sets)
set_bounds lower names at links pairs sets is told =
    let n = length names in (
      (λ row lt. (get_or pairs row 0, told.1 row lt)),
      ap length is ∙ length-map (nonempty_sets n) (folded (applied n pairs)) ∙ length-nonempty_sets n,
      λ index lt. rw (is, table_entry n index (folded (applied n pairs)) lt)
          (fold_is_bound lower n (Leads links) (λ a lt. here) (leads_on links) (applied n pairs) (pair_bound lower n (Leads links) pairs told.1) (members_of n (index + 1))
          (some_member n (index + 1) (omega arith) (omega arith)) (members_below n (index + 1))),
    )

-- ---- the ordering that is named

follows_alike : {X Y Z : Type 0} (first : Result X SpecFault) (says : X → Result Y SpecFault → Type 0) (tells : X → Result Z SpecFault → Type 0) (f : SpecFault) → ((x : X) → says x (Err f) → tells x (Err f)) → Follows first says (Err f) → Follows first tells (Err f)
follows_alike (Ok x) says tells f to h = to x h
follows_alike (Err g) says tells f to h = let same : f ≡ g = cc in rw same refl

module _ (bytes : List ℕ) (names : List (List ℕ)) (orderings : List Ordered) (at : ℕ) (lower : Bool) (word : Word) where
  pub set_bound_fails : (f : SpecFault) → Answers (BoundGives bytes names orderings 2 at lower word) (Err f) → Answers (SetBoundGives bytes names orderings at lower word) (Err f)
  set_bound_fails Memory h = h
  set_bound_fails (Fault number offset kept) h =
      follows_alike (found word (ordering_named bytes orderings word)) (λ o. BoundsGive lower names at (Leads o.links)) (λ o. SetBoundsGive lower names at (Leads o.links)) (Fault number offset kept) (λ o told. told) h

  pub set_bound_told : (pairs sets : List ℕ) → sets ≡ table_over (length names) (folded (applied (length names) pairs)) → BoundGives bytes names orderings 2 at lower word (Ok pairs) → SetBoundGives bytes names orderings at lower word (Ok sets)
  set_bound_told pairs sets is h = by (found word (ordering_named bytes orderings word)) h where
    by : (first : Result Ordered SpecFault) → Follows first (λ o. BoundsGive lower names at (Leads o.links)) (Ok pairs) → Follows first (λ o. SetBoundsGive lower names at (Leads o.links)) (Ok sets)
    by (Ok o) told = set_bounds lower names at o.links pairs sets is told
    by (Err g) told = absurd cc
