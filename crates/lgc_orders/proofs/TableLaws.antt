-- Tables of relations: what a walk over their places keeps.
use Rattle.std.proofs.Common.{◌≡◌, ℕ, ◌+◌, ◌*◌, ◌/◌, ◌%◌, ◌<◌, ◌≤◌, ◌≢◌, ◌⊎◌, inl, inr, Bool, true, false, ◌||◌, ◌&&◌, ◌==◌, List, [], ◌∷◌, ◌++◌, length, get_or, set, refl, ap, sym, subst, ◌∙◌, arith, ⊎_elim, IsTrue}
use Rattle.std.proofs.lemmas.Nat.{div-mul-add, mod-mul-add, div-add-mod', mul-add-lt}
use Rattle.std.proofs.lemmas.List.{get_or-set_other, get_or-set_same}
use Rattle.std.proofs.lemmas.Bool.{cases_lt, eqb-true, eq-eqb}
use Rattle.std.proofs.Math.Bool.{or-true, or-false}
use Rattle.lgc_orders.specs.Order.{Leads, here, cell, IsCycle, IsAntisymmetric, IsOrder, TellsLinks}
use Rattle.lgc_orders.proofs.LinkLaws.{same_from_none, Leads-joined, Leads-more, Leads-over, Leads-split, Leads-known}

-- ---- the place of a pair
row_of : (n a b i : ℕ) → b < n → a * n + b ≡ i → i / n ≡ a
row_of n a b i lt at = ap (λ p. p / n) (sym at) ∙ div-mul-add a n b lt

column_of : (n a b i : ℕ) → b < n → a * n + b ≡ i → i % n ≡ b
column_of n a b i lt at = ap (λ p. p % n) (sym at) ∙ mod-mul-add a n b lt

pub cell-at : (table : List Bool) (n i : ℕ) → cell table n (i / n) (i % n) ≡ get_or table i false
cell-at table n i = ap (λ k. get_or table k false) (div-add-mod' i n)

-- ---- adding a link
-- the first i places have what the link adds, and the others are as they were
pub record IsAdded (n low high : ℕ) (old new : List Bool) (i : ℕ) : Type 0 where
  pub done : (a b : ℕ) → a < n → b < n → a * n + b < i → cell new n a b ≡ (cell old n a b || (cell old n a low && cell old n high b))
  pub rest : (a b : ℕ) → a < n → b < n → i ≤ a * n + b → cell new n a b ≡ cell old n a b

absorb_first : (x y : Bool) → (x || (x && y)) ≡ x
absorb_first true y = refl
absorb_first false y = refl

absorb_second : (x y : Bool) → (x || (y && x)) ≡ x
absorb_second true y = refl
absorb_second false true = refl
absorb_second false false = refl

module _ (n low high : ℕ) (old new : List Bool) (i : ℕ) (in_low : low < n) (in_high : high < n) (added : IsAdded n low high old new i) where
  -- what leads to the lower end, and where the upper end leads, is read as it was
  reads_low : (a : ℕ) → a < n → cell new n a low ≡ cell old n a low
  reads_low a lt = ⊎_elim
      (λ (before : a * n + low < i). added.done a low lt in_low before ∙ absorb_first (cell old n a low) (cell old n high low))
      (λ (after : i ≤ a * n + low). added.rest a low lt in_low after)
      (cases_lt (a * n + low) i)

  reads_high : (b : ℕ) → b < n → cell new n high b ≡ cell old n high b
  reads_high b lt = ⊎_elim
      (λ (before : high * n + b < i). added.done high b in_high lt before ∙ absorb_second (cell old n high b) (cell old n high low))
      (λ (after : i ≤ high * n + b). added.rest high b in_high lt after)
      (cases_lt (high * n + b) i)

  -- what the link adds at place i
  here_added : (a b : ℕ) → a < n → b < n → a * n + b ≡ i → (cell old n a low && cell old n high b) ≡ (cell new n (i / n) low && cell new n high (i % n))
  here_added a b la lb at =
      rw (row_of n a b i lb at, column_of n a b i lb at, reads_low a la, reads_high b lb) refl

  -- the pair at place i is added
  pub IsAdded-set : i < length new → (cell new n (i / n) low && cell new n high (i % n)) ≡ true → IsAdded n low high old (set new i true) (i + 1)
  IsAdded-set lt joins = record {
    done = λ a b la lb before. ⊎_elim
        (λ (earlier : a * n + b < i). let other : a * n + b ≢ i = omega arith in get_or-set_other new i (a * n + b) true false other ∙ added.done a b la lb earlier)
        (λ (later : i ≤ a * n + b).
        let at : a * n + b ≡ i = omega arith in
        let joined : (cell old n a low && cell old n high b) ≡ true = here_added a b la lb at ∙ joins in
        ap (λ k. get_or (set new i true) k false) at ∙ get_or-set_same new i true false lt ∙ sym (ap (λ j. cell old n a b || j) joined ∙ or-true (cell old n a b)))
        (cases_lt (a * n + b) i);
    rest = λ a b la lb after. let other : a * n + b ≢ i = omega arith in get_or-set_other new i (a * n + b) true false other ∙ added.rest a b la lb (omega arith);
  }

  -- nothing is added at place i
  pub IsAdded-kept : (cell new n (i / n) low && cell new n high (i % n)) ≡ false → IsAdded n low high old new (i + 1)
  IsAdded-kept joins = record {
    done = λ a b la lb before. ⊎_elim
        (λ (earlier : a * n + b < i). added.done a b la lb earlier)
        (λ (later : i ≤ a * n + b).
        let at : a * n + b ≡ i = omega arith in
        let joined : (cell old n a low && cell old n high b) ≡ false = here_added a b la lb at ∙ joins in
        added.rest a b la lb later ∙ sym (ap (λ j. cell old n a b || j) joined ∙ or-false (cell old n a b)))
        (cases_lt (a * n + b) i);
    rest = λ a b la lb after. added.rest a b la lb (omega arith);
  }

-- ---- what tables tell of links
-- the first i places have the pairs of equals alone
pub record IsEqualitySoFar (n : ℕ) (table : List Bool) (i : ℕ) : Type 0 where
  pub so_far : length table ≡ i
  pub equals : (k : ℕ) → k < i → get_or table k false ≡ (k / n == k % n)

-- without links only equals are related
pub TellsLinks-none : (n : ℕ) (table : List Bool) → IsEqualitySoFar n table (n * n) → TellsLinks n [] table
TellsLinks-none n table equality = record {
  whole = equality.so_far;
  leads = λ a b la lb.
      let within : a * n + b < n * n = mul-add-lt a n b n la lb in
      let is : cell table n a b ≡ (a == b) = equality.equals (a * n + b) within ∙ rw (div-mul-add a n b lb, mod-mul-add a n b lb) refl in (
        (λ told. subst (Leads [] a) (eqb-true a b (sym is ∙ told)) here),
        (λ chain. is ∙ eq-eqb a b (same_from_none chain)),
      );
}

either_true : (x y z : Bool) → (x || (y && z)) ≡ true → (x ≡ true) ⊎ ((y ≡ true) × (z ≡ true))
either_true true y z e = inl refl
either_true false true z e = inr (refl, e)
either_true false false z e = cc

module _ (n : ℕ) (links : List (ℕ × ℕ)) (low high : ℕ) (old : List Bool) (in_low : low < n) (in_high : high < n) (tells : TellsLinks n links old) where
  -- a link that was added
  pub TellsLinks-added : (new : List Bool) → length new ≡ length old
      → ((a b : ℕ) → a < n → b < n → cell new n a b ≡ (cell old n a b || (cell old n a low && cell old n high b)))
      → TellsLinks n (links ++ (low, high) ∷ []) new
  TellsLinks-added new size added = record {
    whole = size ∙ tells.whole;
    leads = λ a b la lb. (
      (λ told. ⊎_elim
          (λ (old' : cell old n a b ≡ true). Leads-more (low, high) ((tells.leads a b la lb).0 old'))
          (λ (over : (cell old n a low ≡ true) × (cell old n high b ≡ true)). Leads-over links low high ((tells.leads a low la in_low).0 over.0) ((tells.leads high b in_high lb).0 over.1))
          (either_true (cell old n a b) (cell old n a low) (cell old n high b) (sym (added a b la lb) ∙ told))),
      (λ chain. added a b la lb ∙ ⊎_elim
          (λ (old' : Leads links a b). ap (λ x. x || (cell old n a low && cell old n high b)) ((tells.leads a b la lb).1 old'))
          (λ (over : Leads links a low × Leads links high b).
          let joined : (cell old n a low && cell old n high b) ≡ true = rw ((tells.leads a low la in_low).1 over.0, (tells.leads high b in_high lb).1 over.1) refl in
          ap (λ j. cell old n a b || j) joined ∙ or-true (cell old n a b))
          (Leads-split links low high chain)),
    );
  }

  -- a link between values that are related already
  pub TellsLinks-known : cell old n low high ≡ true → TellsLinks n (links ++ (low, high) ∷ []) old
  TellsLinks-known known = record {
    whole = tells.whole;
    leads = λ a b la lb. (
      (λ told. Leads-more (low, high) ((tells.leads a b la lb).0 told)),
      (λ chain. (tells.leads a b la lb).1 (Leads-known links low high ((tells.leads low high in_low in_high).0 known) chain)),
    );
  }

-- a table of links without a cycle tells an order
pub IsOrder-of_links : (n : ℕ) (links : List (ℕ × ℕ)) (table : List Bool) → TellsLinks n links table → IsAntisymmetric n (λ a b. IsTrue (cell table n a b)) → IsOrder (record { size = n; table = table })
IsOrder-of_links n links table tells all = record {
  whole = tells.whole;
  reflexive = λ a la. (tells.leads a a la la).1 here;
  antisymmetric = all;
  transitive = λ a b c la lb lc first next. (tells.leads a c la lc).1 (Leads-joined ((tells.leads a b la lb).0 first) ((tells.leads b c lb lc).0 next));
}

-- ---- the first cycle
-- no pair before place i is a cycle
pub record HasNoneBefore (n : ℕ) (table : List Bool) (i : ℕ) : Type 0 where
  pub none : (a b : ℕ) → a * n + b < i → IsCycle n (λ x y. IsTrue (cell table n x y)) a b → ⊥

pub HasNoneBefore-more : (n : ℕ) (table : List Bool) (i : ℕ) → HasNoneBefore n table i → (IsCycle n (λ x y. IsTrue (cell table n x y)) (i / n) (i % n) → ⊥) → HasNoneBefore n table (i + 1)
HasNoneBefore-more n table i before none = record {
  none = λ a b within cycle. ⊎_elim
      (λ (earlier : a * n + b < i). before.none a b earlier cycle)
      (λ (later : i ≤ a * n + b).
      let at : a * n + b ≡ i = omega arith in
      none (rw (row_of n a b i cycle.within at, column_of n a b i cycle.within at) cycle))
      (cases_lt (a * n + b) i);
}
