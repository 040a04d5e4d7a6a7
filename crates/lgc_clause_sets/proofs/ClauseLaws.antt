-- Subsumption is an order, joining keeps it, and a clause with a full set subsumes only such.
use Rattle.std.proofs.Common.{◌≡◌, ℕ, ◌<◌, inl, inr, Bool, true, false, ◌||◌, ◌&&◌, ◌==◌, nat_lt, List, [], ◌∷◌, length, refl, ap, sym, ◌∙◌, arith}
use Rattle.std.specs.Cmp.{both_ways}
use Rattle.std.specs.List.{list_all, AllByRecursion}
use Rattle.std.proofs.lemmas.Bool.{and_parts, and_from, or_cases, or_left, or_right, eq-eqb, ltb-true, lt-ltb, false_from_ne_true, true≢false}
use Rattle.lgc_values.specs.Values.{has, values_where}
use Rattle.lgc_values.proofs.ValueLaws.{has-values_where, values_where-alike}
use Rattle.lgc_clauses.specs.Rules.{some_in}
use Rattle.lgc_sequents.specs.Sequents.{IsSet, has_all, union}
use Rattle.lgc_sequents.proofs.Laws.{list_all-has}
use Rattle.lgc_clause_sets.specs.AtomClauses.{has_full, subsumes, joined}

-- ---- sets

-- what is true of each member is true of all
pub list_all-from_has : (p : ℕ → Bool) (set : List ℕ) → ((v : ℕ) → has set v ≡ true → p v ≡ true) → list_all p set ≡ true
list_all-from_has p [] h = refl
list_all-from_has p (x ∷ set) h =
    and_from (p x) (list_all p set) (h x (or_left (x == x) (has set x) (eq-eqb x x refl))) (list_all-from_has p set (λ v member. h v (or_right (x == v) (has set v) member)))

-- a set with all values has each, and one that has each has all
pub full_has : (n : ℕ) (set : List ℕ) (v : ℕ) → has_all n set ≡ true → v < n → has set v ≡ true
full_has n set v full lt = list_all-has (has set) (values_where n (λ _. true)) v full (has-values_where n (λ _. true) v ∙ ap (λ b. b && true) (lt-ltb v n lt))

pub has_full_from : (n : ℕ) (set : List ℕ) → ((v : ℕ) → v < n → has set v ≡ true) → has_all n set ≡ true
has_full_from n set h = list_all-from_has (has set) (values_where n (λ _. true)) (λ v member. h v (ltb-true v n (and_parts (nat_lt v n) true (sym (has-values_where n (λ _. true) v) ∙ member)).0))

-- a value below n is in a union where it is in one of the sets
pub in_union : (n : ℕ) (a b : List ℕ) (v : ℕ) → v < n → has (union n a b) v ≡ (has a v || has b v)
in_union n a b v lt = has-values_where n (λ w. has a w || has b w) v ∙ ap (λ below. below && (has a v || has b v)) (lt-ltb v n lt)

set_union : (n : ℕ) (a b c d : List ℕ) → list_all (has c) a ≡ true → list_all (has d) b ≡ true → list_all (has (union n c d)) (union n a b) ≡ true
set_union n a b c d h k = list_all-from_has (has (union n c d)) (union n a b) (λ v member.
    let parts = and_parts (nat_lt v n) (has a v || has b v) (sym (has-values_where n (λ w. has a w || has b w) v) ∙ member) in
    in_union n c d v (ltb-true v n parts.0) ∙ elim (or_cases (has a v) (has b v) parts.1) [
      | inl e ↦ or_left (has c v) (has d v) (list_all-has (has c) a v h e)
      | inr e ↦ or_right (has c v) (has d v) (list_all-has (has d) b v k e)
    ])

-- ---- subsumption

pub subsumes_itself : (a : List (List ℕ)) → subsumes a a ≡ true
subsumes_itself [] = refl
subsumes_itself (set ∷ a) = and_from (list_all (has set) set) (subsumes a a) (list_all-from_has (has set) set (λ v member. member)) (subsumes_itself a)

pub subsumes_further : (a b c : List (List ℕ)) → subsumes a b ≡ true → subsumes b c ≡ true → subsumes a c ≡ true
subsumes_further [] [] c h k = k
subsumes_further [] (y ∷ b) c h k = cc
subsumes_further (x ∷ a) [] c h k = cc
subsumes_further (x ∷ a) (y ∷ b) [] h k = cc
subsumes_further (x ∷ a) (y ∷ b) (z ∷ c) h k =
    let p = and_parts (list_all (has y) x) (subsumes a b) h in
    let q = and_parts (list_all (has z) y) (subsumes b c) k in
    and_from (list_all (has z) x) (subsumes a c) (list_all-from_has (has z) x (λ v member. list_all-has (has z) y v q.0 (list_all-has (has y) x v p.0 member))) (subsumes_further a b c p.1 q.1)

-- clauses that subsume each other are equal, where their sets are rising lists of values below n
pub subsumes_both : (n : ℕ) (a b : List (List ℕ)) → AllByRecursion (IsSet n) a → AllByRecursion (IsSet n) b → subsumes a b ≡ true → subsumes b a ≡ true → a ≡ b
subsumes_both n [] [] sets_a sets_b h k = refl
subsumes_both n [] (y ∷ b) sets_a sets_b h k = cc
subsumes_both n (x ∷ a) [] sets_a sets_b h k = cc
subsumes_both n (x ∷ a) (y ∷ b) sets_a sets_b h k =
    let p = and_parts (list_all (has y) x) (subsumes a b) h in
    let q = and_parts (list_all (has x) y) (subsumes b a) k in
    let here : x ≡ y = sets_a.0 ∙ values_where-alike n (has x) (has y) (λ v lt. both_ways (has x v) (has y v) (list_all-has (has y) x v p.0) (list_all-has (has x) y v q.0)) ∙ sym sets_b.0 in
    λ i. here i ∷ subsumes_both n a b sets_a.1 sets_b.1 p.1 q.1 i

-- ---- full sets

full_wider : (n : ℕ) (x y : List ℕ) → ((v : ℕ) → v < n → has x v ≡ true → has y v ≡ true) → has_all n x ≡ true → has_all n y ≡ true
full_wider n x y wide full = has_full_from n y (λ v lt. wide v lt (full_has n x v full lt))

pub full_up : (n : ℕ) (a b : List (List ℕ)) → subsumes a b ≡ true → has_full n a ≡ true → has_full n b ≡ true
full_up n [] b h f = cc
full_up n (x ∷ a) [] h f = cc
full_up n (x ∷ a) (y ∷ b) h f =
    let p = and_parts (list_all (has y) x) (subsumes a b) h in
    elim (or_cases (has_all n x) (has_full n a) f) [
      | inl full ↦ or_left (has_all n y) (has_full n b) (full_wider n x y (λ v lt. list_all-has (has y) x v p.0) full)
      | inr later ↦ or_right (has_all n y) (has_full n b) (full_up n a b p.1 later)
    ]

-- what subsumes a clause without a full set has none
pub open_down : (n : ℕ) (a b : List (List ℕ)) → subsumes a b ≡ true → has_full n b ≡ false → has_full n a ≡ false
open_down n a b h f = false_from_ne_true (has_full n a) (λ full. true≢false (sym (full_up n a b h full) ∙ f))

-- ---- joins

pub subsumes_joined : (n : ℕ) (a b c d : List (List ℕ)) → subsumes a c ≡ true → subsumes b d ≡ true → subsumes (joined n a b) (joined n c d) ≡ true
subsumes_joined n [] b [] d h k = k
subsumes_joined n [] b (z ∷ c) d h k = cc
subsumes_joined n (x ∷ a) b [] d h k = cc
subsumes_joined n (x ∷ a) [] (z ∷ c) [] h k = h
subsumes_joined n (x ∷ a) [] (z ∷ c) (w ∷ d) h k = cc
subsumes_joined n (x ∷ a) (y ∷ b) (z ∷ c) [] h k = cc
subsumes_joined n (x ∷ a) (y ∷ b) (z ∷ c) (w ∷ d) h k =
    let p = and_parts (list_all (has z) x) (subsumes a c) h in
    let q = and_parts (list_all (has w) y) (subsumes b d) k in
    and_from (list_all (has (union n z w)) (union n x y)) (subsumes (joined n a b) (joined n c d)) (set_union n x y z w p.0 q.0) (subsumes_joined n a b c d p.1 q.1)

pub full_left : (n : ℕ) (a b : List (List ℕ)) → has_full n a ≡ true → has_full n (joined n a b) ≡ true
full_left n [] b h = cc
full_left n (x ∷ a) [] h = h
full_left n (x ∷ a) (y ∷ b) h = elim (or_cases (has_all n x) (has_full n a) h) [
  | inl full ↦ or_left (has_all n (union n x y)) (has_full n (joined n a b)) (full_wider n x (union n x y) (λ v lt member. in_union n x y v lt ∙ or_left (has x v) (has y v) member) full)
  | inr later ↦ or_right (has_all n (union n x y)) (has_full n (joined n a b)) (full_left n a b later)
]

pub full_right : (n : ℕ) (a b : List (List ℕ)) → has_full n b ≡ true → has_full n (joined n a b) ≡ true
full_right n [] b h = h
full_right n (x ∷ a) [] h = cc
full_right n (x ∷ a) (y ∷ b) h = elim (or_cases (has_all n y) (has_full n b) h) [
  | inl full ↦ or_left (has_all n (union n x y)) (has_full n (joined n a b)) (full_wider n y (union n x y) (λ v lt member. in_union n x y v lt ∙ or_right (has x v) (has y v) member) full)
  | inr later ↦ or_right (has_all n (union n x y)) (has_full n (joined n a b)) (full_right n a b later)
]

-- ---- where clauses are true

-- what a clause subsumes is true where it is
pub true_wider : (a b : List (List ℕ)) (values : List ℕ) → subsumes a b ≡ true → some_in a values ≡ true → some_in b values ≡ true
true_wider [] b values h holds = cc
true_wider (x ∷ a) [] values h holds = cc
true_wider (x ∷ a) (y ∷ b) [] h holds = cc
true_wider (x ∷ a) (y ∷ b) (v ∷ values) h holds =
    let p = and_parts (list_all (has y) x) (subsumes a b) h in
    elim (or_cases (has x v) (some_in a values) holds) [ inl e ↦ or_left (has y v) (some_in b values) (list_all-has (has y) x v p.0 e) | inr later ↦ or_right (has y v) (some_in b values) (true_wider a b values p.1 later) ]

-- a clause with a full set is true at values below n
pub full_true : (n : ℕ) (a : List (List ℕ)) (values : List ℕ) → AllByRecursion (λ v. v < n) values → length a ≡ length values → has_full n a ≡ true → some_in a values ≡ true
full_true n [] values low same full = cc
full_true n (x ∷ a) [] low same full = absurd (omega (arith, same))
full_true n (x ∷ a) (v ∷ values) low same full =
    elim (or_cases (has_all n x) (has_full n a) full) [ inl e ↦ or_left (has x v) (some_in a values) (full_has n x v e low.0) | inr later ↦ or_right (has x v) (some_in a values) (full_true n a values low.1 (omega (arith, same)) later) ]
