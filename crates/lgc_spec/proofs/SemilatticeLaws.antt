-- An operator that keeps the laws is the greatest lower bound of an order, and its fold over a set is that of the set. So the
-- fold doesn't depend on the order in which the values are joined.
use Rattle.std.proofs.Common.{◌≡◌, ℕ, zero, suc, ◌+◌, ◌^◌, ◌<◌, Bool, true, false, cond, not, List, [], ◌∷◌, length, find, All, Option, Some, None, option_map, refl, sym, ap, ◌∙◌, arith}
use Rattle.std.specs.List.{range_with_len}
use Rattle.std.specs.Option.{option_or}
use Rattle.std.proofs.lemmas.Bool.{eqb-true}
use Rattle.std.proofs.lemmas.List.Elements.{All-nil, All-cons}
use Rattle.lgc_values.specs.Logic.{arguments_at}
use Rattle.lgc_orders.specs.Order.{IsInf}
use Rattle.lgc_spec.specs.declared.fault.Law.{Law}
use Rattle.lgc_spec.specs.declared.fault.Law.TheVariants.{Idempotent, Commutative, Associative}
use Rattle.lgc_spec.specs.Folds.{folded}
use Rattle.lgc_spec.specs.Bounds.{IsSetInf}
use Rattle.lgc_spec.specs.Inductions.{width, holds, first_broken, broken, not_semilattice}
use Rattle.lgc_spec.proofs.Indices.{arguments_at-index, index_of-below}
use Rattle.lgc_spec.specs.Rows.{index_of}
use Rattle.lgc_spec.proofs.LogicShapes.{both_none}
use Rattle.lgc_spec.proofs.SetBounds.{fold_is_inf}

none_passes : (test : ℕ → Bool) (a n k : ℕ) → find test (range_with_len a n) ≡ None → k < n → test (a + k) ≡ false
none_passes test a zero k none lt = absurd (omega arith)
none_passes test a (suc n) k none lt = by (test a) refl none k lt (λ e j l. none_passes test (a + 1) n j e l) where
  place : test a ≡ false → ((j : ℕ) → j < n → test (a + 1 + j) ≡ false) → (j : ℕ) → j < suc n → test (a + j) ≡ false
  place t later zero l = let same : a ≡ a + 0 = omega arith in rw same at t
  place t later (suc j) l = let same : a + 1 + j ≡ a + suc j = omega arith in rw same at (later j (omega arith))

  by : (b : Bool) → test a ≡ b → cond b (Some a) (find test (range_with_len (a + 1) n)) ≡ None → (j : ℕ) → j < suc n → (find test (range_with_len (a + 1) n) ≡ None → (i : ℕ) → i < n → test (a + 1 + i) ≡ false) → test (a + j) ≡ false
  by true t e j l later = absurd cc
  by false t e j l later = place t (later e) j l

unmapped : {X Y : Type 0} (f : X → Y) (o : Option X) → option_map f o ≡ None → o ≡ None
unmapped f None e = refl
unmapped f (Some x) e = absurd cc

double : (b : Bool) → not b ≡ false → b ≡ true
double true e = refl
double false e = absurd cc

module _ (names : List (List ℕ)) (op : ℕ → ℕ → ℕ) (at : ℕ) (keeps : not_semilattice names op at ≡ None) where
  -- a law that isn't broken holds of all values
  law_holds : (law : Law) (values : List ℕ) → broken names op at law ≡ None → All (λ v. v < length names) values → length values ≡ width law → holds law op values ≡ true
  law_holds law values none all size =
      let n = length names in
      let test : ℕ → Bool = λ index. not (holds law op (arguments_at n (width law) index)) in
      let found : find test (range_with_len 0 (n ^ width law)) ≡ None = unmapped _ (first_broken law n op) none in
      let below : index_of n values < n ^ width law = rw (← size) (index_of-below n values all) in
      let there : test (0 + index_of n values) ≡ false = none_passes test 0 (n ^ width law) (index_of n values) found below in
      let zero_is : 0 + index_of n values ≡ index_of n values = omega arith in
      let these : arguments_at n (width law) (index_of n values) ≡ values = arguments_at-index n (width law) values all size in
      double (holds law op values) (rw these at (rw zero_is at there))

  one : (a : ℕ) → a < length names → All (λ v. v < length names) (a ∷ [])
  one a la = All-cons (λ v. v < length names) a [] la (All-nil (λ v. v < length names))

  two : (a b : ℕ) → a < length names → b < length names → All (λ v. v < length names) (a ∷ b ∷ [])
  two a b la lb = All-cons (λ v. v < length names) a (b ∷ []) la (one b lb)

  parts : (broken names op at Idempotent ≡ None) × (option_or (broken names op at Commutative) (broken names op at Associative) ≡ None)
  parts = both_none (broken names op at Idempotent) _ keeps

  pub idempotent : (a : ℕ) → a < length names → op a a ≡ a
  idempotent a la = eqb-true (op a a) a (law_holds Idempotent (a ∷ []) parts.0 (one a la) refl)

  pub commutative : (a b : ℕ) → a < length names → b < length names → op a b ≡ op b a
  commutative a b la lb = eqb-true (op a b) (op b a) (law_holds Commutative (a ∷ b ∷ []) (both_none (broken names op at Commutative) _ parts.1).0 (two a b la lb) refl)

  pub associative : (a b c : ℕ) → a < length names → b < length names → c < length names → op (op a b) c ≡ op a (op b c)
  associative a b c la lb lc = eqb-true (op (op a b) c) (op a (op b c)) (law_holds Associative (a ∷ b ∷ c ∷ []) (both_none (broken names op at Commutative) _ parts.1).1 (All-cons (λ v. v < length names) a (b ∷ c ∷ []) la (two b c lb lc)) refl)

  -- a is below b where the operator gives a
  abbrev Under : ℕ → ℕ → Type 0
  Under a b = (a < length names) × (b < length names) × (op a b ≡ a)

  module _ (closed : (a b : ℕ) → a < length names → b < length names → op a b < length names) where
    under_all : (a b c : ℕ) → Under a b → Under b c → Under a c
    under_all a b c f g = (f.0, g.1, ap (λ v. op v c) (sym f.2) ∙ associative a b c f.0 f.1 g.1 ∙ ap (op a) g.2 ∙ f.2)

    op_is_inf : (a b : ℕ) → a < length names → b < length names → IsInf (length names) Under a b (op a b)
    op_is_inf a b la lb =
        let ab = closed a b la lb in
        let first : op (op a b) a ≡ op a b = commutative (op a b) a ab la ∙ sym (associative a a b la la lb) ∙ ap (λ v. op v b) (idempotent a la) in
        let second : op (op a b) b ≡ op a b = associative a b b la lb lb ∙ ap (op a) (idempotent b lb) in
        record {
          within = ab;
          bound = ((ab, la, first), (ab, lb, second));
          greatest = λ d ld bound. (ld, ab, sym (associative d a b ld la lb) ∙ ap (λ v. op v b) bound.0.2 ∙ bound.1.2);
        }

    -- the fold over a set is its greatest lower bound
    pub folds_to_inf : (set : List ℕ) → (set ≡ [] → ⊥) → All (λ v. v < length names) set → IsSetInf (length names) Under set (folded op set)
    folds_to_inf set some all = fold_is_inf (length names) Under (λ a la. (la, la, idempotent a la)) under_all op op_is_inf set some all

    -- and two sets with the same members have the same fold
    pub same_fold : (set other : List ℕ) → (set ≡ [] → ⊥) → (other ≡ [] → ⊥) → All (λ v. v < length names) set → All (λ v. v < length names) other → ((P : ℕ → Type 0) → All P set → All P other) → ((P : ℕ → Type 0) → All P other → All P set) → folded op set ≡ folded op other
    same_fold set other some more all all' to back =
        let one = folds_to_inf set some all in
        let two = folds_to_inf other more all' in
        let up = two.greatest (folded op set) one.within (to (λ v. Under (folded op set) v) one.bound) in
        let down = one.greatest (folded op other) two.within (back (λ v. Under (folded op other) v) two.bound) in
        sym up.2 ∙ commutative (folded op set) (folded op other) one.within two.within ∙ down.2
