-- Laws of sets of truth values.
use Rattle.std.proofs.Common.{◌≡◌, ℕ, ◌+◌, ◌-◌, ◌*◌, ◌/◌, ◌%◌, ◌^◌, ◌<◌, ◌≤◌, zero, suc, Bool, true, false, cond, ◌==◌, ◌&&◌, ◌||◌, not, List, [], ◌∷◌, refl, ap, sym, ◌∙◌, arith, ⊎_elim, ◌≢◌, Option, None, Some, IsTrue, ◌↔◌}
use Rattle.std.specs.Prelude.{filter, nat_lt, nat_le, bit_or, bit_and, bit_xor, min, max}
use Rattle.std.specs.List.{range_with_len, list_all, list_any}
use Rattle.std.specs.Int.{bit_at}
use Rattle.std.proofs.lemmas.Bool.{cases_eq, eqb-true, eq-eqb, ne_eqb, and_parts, or_cases, or_left, or_right, ltb-true}
use Rattle.std.proofs.lemmas.Bool.Decides.{nat_tests, same_from_decides, Decides-eqb}
use Rattle.std.proofs.lemmas.Nat.{or_lt, xor_lt, and_le_l}
use Rattle.std.proofs.Math.Pow.{pow_mono, pow-lt, ones_lt, pow_pos}
use Rattle.std.proofs.lemmas.Nat.Bits.{bit_at_or, bit_at_and, bit_at_xor, bit_at-pow_same, bit_at-pow_other, bit_at_ones, bit_at-lt, bit_at-zero, shr_and_one, same_from_bits_below}
use Rattle.lgc_values.specs.declared.TheConstants.{MOST_VALUES}
use Rattle.lgc_values.specs.Values.{values_where, has, mask_of, members_of, Least, is_from}
use Rattle.lgc_values.specs.Masks.{mask_of-members_of}

-- two tests that agree below n pick the same values
filter_alike : (a n : ℕ) (p q : ℕ → Bool) → ((v : ℕ) → a ≤ v → v < a + n → p v ≡ q v) → filter p (range_with_len a n) ≡ filter q (range_with_len a n)
filter_alike a zero p q same = refl
filter_alike a (suc n) p q same =
    let here : p a ≡ q a = same a (omega arith) (omega arith) in
    let rest : filter p (range_with_len (a + 1) n) ≡ filter q (range_with_len (a + 1) n) = filter_alike (a + 1) n p q (λ v le lt. same v (omega arith) (omega arith)) in
    cc

pub values_where-alike : (n : ℕ) (p q : ℕ → Bool) → ((v : ℕ) → v < n → p v ≡ q v) → values_where n p ≡ values_where n q
values_where-alike n p q same = filter_alike 0 n p q (λ v _ lt. same v (omega arith))

-- a member of the picked values is a value in the range that passes the test
has_pick : (b : Bool) (a n v : ℕ) (rest : List ℕ) (passes : Bool) → (a ≡ v → b ≡ passes) → has rest v ≡ (nat_le (a + 1) v && (nat_lt v (a + 1 + n) && passes)) → has (cond b (a ∷ rest) rest) v ≡ (nat_le a v && (nat_lt v (a + suc n) && passes))
has_pick true a n v rest passes here there = grind (arith, nat_tests)
has_pick false a n v rest passes here there = grind (arith, nat_tests)

has-filter : (a n : ℕ) (p : ℕ → Bool) (v : ℕ) → has (filter p (range_with_len a n)) v ≡ (nat_le a v && (nat_lt v (a + n) && p v))
has-filter a zero p v = grind (arith, nat_tests)
has-filter a (suc n) p v = has_pick (p a) a n v (filter p (range_with_len (a + 1) n)) (p v) (λ e. ap p e) (has-filter (a + 1) n p v)

pub has-values_where : (n : ℕ) (p : ℕ → Bool) (v : ℕ) → has (values_where n p) v ≡ (nat_lt v n && p v)
has-values_where n p v = let all : has (filter p (range_with_len 0 n)) v ≡ (nat_le 0 v && (nat_lt v (0 + n) && p v)) = has-filter 0 n p v in grind (arith, nat_tests)

-- tests of bits
pub bit-or : (a b v : ℕ) → (bit_at (bit_or a b) v == 1) ≡ ((bit_at a v == 1) || (bit_at b v == 1))
bit-or a b v = rw bit_at_or (or_bit (bit_at a v) (bit_at b v) (bit_at-lt a v) (bit_at-lt b v)) where
  or_bit : (x y : ℕ) → x < 2 → y < 2 → (max x y == 1) ≡ ((x == 1) || (y == 1))
  or_bit x y lx ly = grind (arith, nat_tests)

pub bit-and : (a b v : ℕ) → (bit_at (bit_and a b) v == 1) ≡ ((bit_at a v == 1) && (bit_at b v == 1))
bit-and a b v = rw bit_at_and (and_bit (bit_at a v) (bit_at b v) (bit_at-lt a v) (bit_at-lt b v)) where
  and_bit : (x y : ℕ) → x < 2 → y < 2 → (min x y == 1) ≡ ((x == 1) && (y == 1))
  and_bit x y lx ly = grind (arith, nat_tests)

pub bit-full : (n v : ℕ) → v < n → (bit_at (2 ^ n - 1) v == 1) ≡ true
bit-full n v lt = rw bit_at_ones refl

pub bit-one : (k v : ℕ) → (bit_at (2 ^ k) v == 1) ≡ (v == k)
bit-one k v = ⊎_elim
    (λ (e : v ≡ k). let one : bit_at (2 ^ k) v ≡ 1 = rw e (bit_at-pow_same k) in grind (arith, nat_tests))
    (λ (ne : v ≢ k). let none : bit_at (2 ^ k) v ≡ 0 = bit_at-pow_other k v ne in grind (arith, nat_tests))
    (cases_eq v k)

-- a xor with all ones takes the complement
pub bit-xor_full : (n mask v : ℕ) → v < n → (bit_at (bit_xor (2 ^ n - 1) mask) v == 1) ≡ not (bit_at mask v == 1)
bit-xor_full n mask v lt =
    let ones : bit_at (2 ^ n - 1) v ≡ 1 = bit_at_ones n v lt in
    let below : bit_at mask v < 2 = bit_at-lt mask v in
    rw (bit_at_xor, ones) (flip (bit_at mask v) below) where
      flip : (x : ℕ) → x < 2 → ((1 + x) % 2 == 1) ≡ not (x == 1)
      flip x lx = grind (arith, nat_tests)

-- ---- what the calls compute. A set is given by its mask
pub has-members_of : (n mask v : ℕ) → v < n → has (members_of n mask) v ≡ (bit_at mask v == 1)
has-members_of n mask v lt = let all : has (members_of n mask) v ≡ (nat_lt v n && (bit_at mask v == 1)) = has-values_where n (λ w. bit_at mask w == 1) v in grind (arith, nat_tests)

shl_one : (v : ℕ) → v ≤ MOST_VALUES → 1 * 2 ^ v % 65536 ≡ 2 ^ v
shl_one v le = let most : 2 ^ v ≤ 2 ^ MOST_VALUES = pow_mono le in omega arith

none-filter : (a n : ℕ) → filter (λ v. bit_at 0 v == 1) (range_with_len a n) ≡ []
none-filter a zero = refl
none-filter a (suc n) = let no : bit_at 0 a ≡ 0 = bit_at-zero a in rw (no, none-filter (a + 1) n) refl

pub empty_law : (n : ℕ) → members_of n 0 ≡ []
empty_law n = none-filter 0 n

pub full_law : (n : ℕ) → n ≤ MOST_VALUES → members_of n (1 * 2 ^ n % 65536 - 1) ≡ values_where n (λ _. true)
full_law n le = rw (shl_one n le) (values_where-alike n (λ v. bit_at (2 ^ n - 1) v == 1) (λ _. true) (λ v lt. bit-full n v lt))

-- the only value that is v
values_from_one : (a n v : ℕ) → a ≤ v → v < a + n → filter (λ w. w == v) (range_with_len a n) ≡ v ∷ []
values_from_one a zero v le lt = absurd (omega arith)
values_from_one a (suc n) v le lt = ⊎_elim
    (λ (e : a ≡ v). rw (eq-eqb a v e, none_above (a + 1) n v (omega arith), e) refl)
    (λ (ne : a ≢ v). rw (ne_eqb a v ne) (values_from_one (a + 1) n v (omega arith) (omega arith)))
    (cases_eq a v)
  where
    none_above : (a n v : ℕ) → v < a → filter (λ w. w == v) (range_with_len a n) ≡ []
    none_above a zero v lt = refl
    none_above a (suc n) v lt = rw (ne_eqb a v (omega arith)) (none_above (a + 1) n v (omega arith))

pub single_law : (n v : ℕ) → v < n → n ≤ MOST_VALUES → members_of n (1 * 2 ^ v % 65536) ≡ v ∷ []
single_law n v lt le = rw (shl_one v (omega arith)) (values_where-alike n (λ w. bit_at (2 ^ v) w == 1) (λ w. w == v) (λ w _. bit-one v w) ∙ values_from_one 0 n v (omega arith) (omega arith))

pub with_law : (n mask v : ℕ) (set : List ℕ) → members_of n mask ≡ set → v < n → n ≤ MOST_VALUES → members_of n (bit_or mask (1 * 2 ^ v % 65536)) ≡ values_where n (λ w. has set w || (w == v))
with_law n mask v set is lt le =
    rw (shl_one v (omega arith), ← is)
    (values_where-alike n (λ w. bit_at (bit_or mask (2 ^ v)) w == 1) (λ w. has (members_of n mask) w || (w == v))
    (λ w below. rw (bit-or, has-members_of n mask w below, bit-one) refl))

pub union_law : (n a b : ℕ) (xs ys : List ℕ) → members_of n a ≡ xs → members_of n b ≡ ys → members_of n (bit_or a b) ≡ values_where n (λ w. has xs w || has ys w)
union_law n a b xs ys is is' =
    rw (← is, ← is')
    (values_where-alike n (λ w. bit_at (bit_or a b) w == 1) (λ w. has (members_of n a) w || has (members_of n b) w)
    (λ w below. rw (bit-or, has-members_of n a w below, has-members_of n b w below) refl))

pub meet_law : (n a b : ℕ) (xs ys : List ℕ) → members_of n a ≡ xs → members_of n b ≡ ys → members_of n (bit_and a b) ≡ values_where n (λ w. has xs w && has ys w)
meet_law n a b xs ys is is' =
    rw (← is, ← is')
    (values_where-alike n (λ w. bit_at (bit_and a b) w == 1) (λ w. has (members_of n a) w && has (members_of n b) w)
    (λ w below. rw (bit-and, has-members_of n a w below, has-members_of n b w below) refl))

pub complement_law : (n mask : ℕ) (set : List ℕ) → members_of n mask ≡ set → n ≤ MOST_VALUES → members_of n (bit_xor (1 * 2 ^ n % 65536 - 1) mask) ≡ values_where n (λ w. not (has set w))
complement_law n mask set is le =
    rw (shl_one n le, ← is)
    (values_where-alike n (λ w. bit_at (bit_xor (2 ^ n - 1) mask) w == 1) (λ w. not (has (members_of n mask) w))
    (λ w below. rw (bit-xor_full n mask w below, has-members_of n mask w below) refl))

pub full_below : (n : ℕ) → n ≤ MOST_VALUES → 1 * 2 ^ n % 65536 - 1 < 2 ^ n
full_below n le = rw (shl_one n le) (ones_lt n)

pub single_below : (n v : ℕ) → v < n → n ≤ MOST_VALUES → 1 * 2 ^ v % 65536 < 2 ^ n
single_below n v lt le = rw (shl_one v (omega arith)) (pow-lt lt)

pub with_below : (n mask v : ℕ) → mask < 2 ^ n → v < n → n ≤ MOST_VALUES → bit_or mask (1 * 2 ^ v % 65536) < 2 ^ n
with_below n mask v below lt le = or_lt n mask (1 * 2 ^ v % 65536) below (single_below n v lt le)

pub complement_below : (n mask : ℕ) → mask < 2 ^ n → n ≤ MOST_VALUES → bit_xor (1 * 2 ^ n % 65536 - 1) mask < 2 ^ n
complement_below n mask below le = xor_lt n (1 * 2 ^ n % 65536 - 1) mask (full_below n le) below

pub contains_law : (n mask v : ℕ) (set : List ℕ) → members_of n mask ≡ set → v < n → (bit_and (mask / 2 ^ v) 1 == 1) ≡ has set v
contains_law n mask v set is lt = rw (shr_and_one, ← is) (sym (has-members_of n mask v lt))

filter-filter : (p q : ℕ → Bool) (xs : List ℕ) → filter q (filter p xs) ≡ filter (λ w. p w && q w) xs
filter-filter p q [] = refl
filter-filter p q (x ∷ xs) = pick (p x) (q x) refl (filter-filter p q xs) where
  pick : (a b : Bool) → q x ≡ b → filter q (filter p xs) ≡ filter (λ w. p w && q w) xs → filter q (cond a (x ∷ filter p xs) (filter p xs)) ≡ cond (a && b) (x ∷ filter (λ w. p w && q w) xs) (filter (λ w. p w && q w) xs)
  pick true true is rest = rw (is, rest) refl
  pick true false is rest = rw (is, rest) refl
  pick false b is rest = rest

pub without_law : (n mask v : ℕ) (set : List ℕ) → members_of n mask ≡ set → v < n → n ≤ MOST_VALUES → members_of n (bit_and mask (bit_xor (1 * 2 ^ n % 65536 - 1) (1 * 2 ^ v % 65536))) ≡ filter (λ w. not (w == v)) set
without_law n mask v set is lt le =
    rw (shl_one n le, shl_one v (omega arith), ← is)
    (values_where-alike n (λ w. bit_at (bit_and mask (bit_xor (2 ^ n - 1) (2 ^ v))) w == 1) (λ w. (bit_at mask w == 1) && not (w == v))
    (λ w below. rw (bit-and, bit-xor_full n (2 ^ v) w below, bit-one) refl)
    ∙ sym (filter-filter (λ w. bit_at mask w == 1) (λ w. not (w == v)) (range_with_len 0 n)))

pub and_below : (n a b : ℕ) → a < 2 ^ n → bit_and a b < 2 ^ n
and_below n a b lt = let le : bit_and a b ≤ a = and_le_l a b in omega arith

-- tests that agree below n have the same least value
pub Least-alike : (n : ℕ) (p q : ℕ → Bool) (found : Option ℕ) → ((v : ℕ) → v < n → p v ≡ q v) → Least n p found → Least n q found
Least-alike n p q None same none = λ v lt. sym (same v lt) ∙ none v lt
Least-alike n p q (Some v) same least = record {
  within = least.within;
  passes = sym (same v least.within) ∙ least.passes;
  before = λ w lt. let below : w < n = omega (arith, least.within) in sym (same w below) ∙ least.before w lt;
}

pub first_law : (n mask : ℕ) (set : List ℕ) (found : Option ℕ) → members_of n mask ≡ set → Least n (is_from 0 mask) found → Least n (has set) found
first_law n mask set found is least = rw (← is) (Least-alike n (is_from 0 mask) (has (members_of n mask)) found (λ v lt. let here : has (members_of n mask) v ≡ (bit_at mask v == 1) = has-members_of n mask v lt in grind (arith, nat_tests)) least)

pub least_missing_law : (n mask : ℕ) (set : List ℕ) (found : Option ℕ) → members_of n mask ≡ set → n ≤ MOST_VALUES → Least n (is_from 0 (bit_xor (1 * 2 ^ n % 65536 - 1) mask)) found → Least n (λ w. not (has set w)) found
least_missing_law n mask set found is le least = rw (← is) (Least-alike n (is_from 0 (bit_xor (1 * 2 ^ n % 65536 - 1) mask)) (λ w. not (has (members_of n mask) w)) found
    (λ v lt. rw (shl_one n le) (let here : has (members_of n mask) v ≡ (bit_at mask v == 1) = has-members_of n mask v lt in let flips : (bit_at (bit_xor (2 ^ n - 1) mask) v == 1) ≡ not (bit_at mask v == 1) = bit-xor_full n mask v lt in grind (arith, nat_tests)))
    least)

pub next_after_law : (n mask low : ℕ) (set : List ℕ) (found : Option ℕ) → members_of n mask ≡ set → Least n (is_from (low + 1) mask) found → Least n (λ w. nat_lt low w && has set w) found
next_after_law n mask low set found is least = rw (← is) (Least-alike n (is_from (low + 1) mask) (λ w. nat_lt low w && has (members_of n mask) w) found (λ v lt. let here : has (members_of n mask) v ≡ (bit_at mask v == 1) = has-members_of n mask v lt in grind (arith, nat_tests)) least)

-- sets are equal where their masks are
pub same_from_mask : (n a b : ℕ) (xs ys : List ℕ) → members_of n a ≡ xs → members_of n b ≡ ys → a < 2 ^ n → b < 2 ^ n → xs ≡ ys → a ≡ b
same_from_mask n a b xs ys is is' lt lt' e = sym (mask_of-members_of n a lt) ∙ ap mask_of (is ∙ e ∙ sym is') ∙ mask_of-members_of n b lt'

pub is_full_law : (n mask : ℕ) (set : List ℕ) → members_of n mask ≡ set → mask < 2 ^ n → n ≤ MOST_VALUES → IsTrue (mask == 1 * 2 ^ n % 65536 - 1) ↔ (set ≡ values_where n (λ _. true))
is_full_law n mask set is lt le = (
  (λ yes. let e : mask ≡ 1 * 2 ^ n % 65536 - 1 = eqb-true mask (1 * 2 ^ n % 65536 - 1) yes in sym is ∙ ap (members_of n) e ∙ full_law n le),
  (λ e. eq-eqb mask (1 * 2 ^ n % 65536 - 1) (same_from_mask n mask (1 * 2 ^ n % 65536 - 1) set (values_where n (λ _. true)) is (full_law n le) lt (full_below n le) e)),
)

pub is_empty_law : (n mask : ℕ) (set : List ℕ) → members_of n mask ≡ set → mask < 2 ^ n → IsTrue (mask == 0) ↔ (set ≡ [])
is_empty_law n mask set is lt = (
  (λ yes. let e : mask ≡ 0 = eqb-true mask 0 yes in sym is ∙ ap (members_of n) e ∙ empty_law n),
  (λ e. eq-eqb mask 0 (same_from_mask n mask 0 set [] is (empty_law n) lt (omega (arith, pow_pos n)) e)),
)

-- a test picks nothing from a list exactly when no item passes
picks : (p q : ℕ → Bool) (xs : List ℕ) → (filter (λ w. q w && p w) xs ≡ [] → list_any q (filter p xs) ≡ false) × ((filter (λ w. q w && p w) xs ≡ [] → ⊥) → list_any q (filter p xs) ≡ true)
picks p q [] = (λ _. refl, λ ne. absurd (ne refl))
picks p q (x ∷ xs) = pick (p x) (q x) refl (picks p q xs) where
  pick : (a b : Bool) → q x ≡ b
      → ((filter (λ w. q w && p w) xs ≡ [] → list_any q (filter p xs) ≡ false) × ((filter (λ w. q w && p w) xs ≡ [] → ⊥) → list_any q (filter p xs) ≡ true))
      → ((cond (b && a) (x ∷ filter (λ w. q w && p w) xs) (filter (λ w. q w && p w) xs) ≡ [] → list_any q (cond a (x ∷ filter p xs) (filter p xs)) ≡ false)
      × ((cond (b && a) (x ∷ filter (λ w. q w && p w) xs) (filter (λ w. q w && p w) xs) ≡ [] → ⊥) → list_any q (cond a (x ∷ filter p xs) (filter p xs)) ≡ true))
  pick true true is rest = (λ e. cc, λ _. rw is refl)
  pick true false is rest = (λ e. rw is (rest.0 e), λ ne. rw is (rest.1 ne))
  pick false true is rest = rest
  pick false false is rest = rest

-- sets have a value in common where the mask of their meet isn't 0
pub meets_law : (n a b : ℕ) (xs ys : List ℕ) → members_of n a ≡ xs → members_of n b ≡ ys → a < 2 ^ n → not (bit_and a b == 0) ≡ list_any (has xs) ys
meets_law n a b xs ys is is' lt =
    let empty = is_empty_law n (bit_and a b) (members_of n (bit_and a b)) refl (and_below n a b lt) in
    pick (bit_and a b == 0) empty.0 empty.1 where
      same : members_of n (bit_and a b) ≡ values_where n (λ w. has xs w && (bit_at b w == 1))
      same = meet_law n a b xs ys is is' ∙ values_where-alike n (λ w. has xs w && has ys w) (λ w. has xs w && (bit_at b w == 1)) (λ w lt. ap (λ t. has xs w && t) (ap (λ s. has s w) (sym is') ∙ has-members_of n b w lt))

      parts : (values_where n (λ w. has xs w && (bit_at b w == 1)) ≡ [] → list_any (has xs) (members_of n b) ≡ false) × ((values_where n (λ w. has xs w && (bit_at b w == 1)) ≡ [] → ⊥) → list_any (has xs) (members_of n b) ≡ true)
      parts = picks (λ w. bit_at b w == 1) (has xs) (range_with_len 0 n)

      pick : (e : Bool) → (e ≡ true → members_of n (bit_and a b) ≡ []) → (members_of n (bit_and a b) ≡ [] → e ≡ true) → not e ≡ list_any (has xs) ys
      pick true to from = sym (ap (list_any (has xs)) (sym is') ∙ parts.0 (sym same ∙ to refl))
      pick false to from = sym (ap (list_any (has xs)) (sym is') ∙ parts.1 (λ e. differ (from (same ∙ e)))) where
        differ : false ≡ true → ⊥
        differ e = cc

-- a set lies in another where the mask of their meet is its own
all-filter : (a n : ℕ) (p q : ℕ → Bool) → ((v : ℕ) → a ≤ v → v < a + n → p v ≡ true → q v ≡ true) → list_all q (filter p (range_with_len a n)) ≡ true
all-filter a zero p q all = refl
all-filter a (suc n) p q all =
    all_pick (p a) a q (filter p (range_with_len (a + 1) n)) (λ yes. all a (omega arith) (omega arith) yes)
    (all-filter (a + 1) n p q (λ v le lt. all v (omega arith) (omega arith))) where
      all_pick : (b : Bool) (a : ℕ) (q : ℕ → Bool) (rest : List ℕ) → (b ≡ true → q a ≡ true) → list_all q rest ≡ true → list_all q (cond b (a ∷ rest) rest) ≡ true
      all_pick true a q rest here there = rw (here refl) there
      all_pick false a q rest here there = there

all_at : (q : ℕ → Bool) (set : List ℕ) → list_all q set ≡ true → (v : ℕ) → has set v ≡ true → q v ≡ true
all_at q [] all v mem = cc
all_at q (x ∷ set) all v mem =
    let parts : (q x ≡ true) × (list_all q set ≡ true) = and_parts (q x) (list_all q set) all in
    ⊎_elim (λ here. let e : x ≡ v = eqb-true x v here in rw (← e) parts.0) (λ there. all_at q set parts.1 v there) (or_cases (x == v) (has set v) mem)

pub subset_law : (n a b : ℕ) (xs ys : List ℕ) → members_of n a ≡ xs → members_of n b ≡ ys → a < 2 ^ n → (bit_and a b == a) ≡ list_all (has ys) xs
subset_law n a b xs ys is is' lt =
    rw (← is, ← is') (same_from_decides (bit_and a b == a) (list_all (has (members_of n b)) (members_of n a)) (Decides-eqb (bit_and a b) a) (back, forth)) where
      back : list_all (has (members_of n b)) (members_of n a) ≡ true → bit_and a b ≡ a
      back all = same_from_bits_below n (bit_and a b) a (and_below n a b lt) lt (λ v below.
          let low : bit_at a v < 2 = bit_at-lt a v in
          let low' : bit_at b v < 2 = bit_at-lt b v in
          let h : has (members_of n a) v ≡ (bit_at a v == 1) = has-members_of n a v below in
          let h' : has (members_of n b) v ≡ (bit_at b v == 1) = has-members_of n b v below in
          let goes : has (members_of n a) v ≡ true → has (members_of n b) v ≡ true = all_at (has (members_of n b)) (members_of n a) all v in
          rw bit_at_and (min_same (bit_at a v) (bit_at b v) (has (members_of n a) v) (has (members_of n b) v) low low' h h' goes)) where
            min_same : (x y : ℕ) (c d : Bool) → x < 2 → y < 2 → c ≡ (x == 1) → d ≡ (y == 1) → (c ≡ true → d ≡ true) → min x y ≡ x
            min_same x y c d lx ly hc hd goes = grind (arith, nat_tests)

      forth : bit_and a b ≡ a → list_all (has (members_of n b)) (members_of n a) ≡ true
      forth e = all-filter 0 n (λ v. bit_at a v == 1) (has (members_of n b)) (λ v _ lt' yes.
          let below : v < n = omega arith in
          let both : (bit_at (bit_and a b) v == 1) ≡ ((bit_at a v == 1) && (bit_at b v == 1)) = bit-and a b v in
          let same : (bit_at (bit_and a b) v == 1) ≡ (bit_at a v == 1) = ap (λ m. bit_at m v == 1) e in
          has-members_of n b v below ∙ snd_true (bit_at a v == 1) (bit_at b v == 1) yes (sym same ∙ both)) where
            snd_true : (x y : Bool) → x ≡ true → x ≡ (x && y) → y ≡ true
            snd_true true y e h = sym h
            snd_true false y e h = cc

pub mask_law : (n mask : ℕ) (set : List ℕ) → members_of n mask ≡ set → mask < 2 ^ n → mask_of set ≡ mask
mask_law n mask set is lt = rw (← is) (mask_of-members_of n mask lt)

pub nonempty_law : (n mask : ℕ) (set : List ℕ) → members_of n mask ≡ set → set ≢ [] → 1 ≤ mask
nonempty_law n mask set is some = ⊎_elim (λ (e : mask ≡ 0). absurd (some (sym is ∙ ap (members_of n) e ∙ empty_law n))) (λ (ne : mask ≡ 0 → ⊥). omega (arith, ne)) (cases_eq mask 0)

-- a set whose mask isn't 0 has a member
pub some_member : (n mask : ℕ) → mask < 2 ^ n → 1 ≤ mask → members_of n mask ≢ []
some_member n mask lt pos e = let none : mask ≡ 0 = sym (mask_of-members_of n mask lt) ∙ ap mask_of e in omega (arith, pos, none)

-- members are below n
pub members_below : (n mask v : ℕ) (set : List ℕ) → members_of n mask ≡ set → has set v ≡ true → v < n
members_below n mask v set is mem =
    ltb-true v n (and_parts (nat_lt v n) (bit_at mask v == 1) (sym (has-values_where n (λ w. bit_at mask w == 1) v) ∙ ap (λ s. has s v) is ∙ mem)).0

-- the members below n of each list are those of some mask
pub mask_for : (n : ℕ) → n ≤ MOST_VALUES → (values : List ℕ) → ((v : ℕ) → has values v ≡ true → v < n) → (mask : ℕ) × (mask < 2 ^ n) × (members_of n mask ≡ values_where n (has values))
mask_for n few [] below = (0, pow_pos n, values_where-alike n _ _ (λ v lt. sym (has-members_of n 0 v lt) ∙ ap (λ s. has s v) (empty_law n)))
mask_for n few (v ∷ values) below =
    let v_lt : v < n = below v (or_left (v == v) (has values v) (eq-eqb v v refl)) in
    let rest = mask_for n few values (λ w member. below w (or_right (v == w) (has values w) member)) in (
      bit_or rest.0 (1 * 2 ^ v % 65536),
      with_below n rest.0 v rest.1 v_lt few,
      with_law n rest.0 v (values_where n (has values)) rest.2 v_lt few ∙ values_where-alike n _ _ (λ w lt. joined w lt (has values w) (has-values_where n (has values) w)),
    )
  where
    joined : (w : ℕ) → w < n → (there : Bool) → has (values_where n (has values)) w ≡ (nat_lt w n && there) → (has (values_where n (has values)) w || (w == v)) ≡ ((v == w) || there)
    joined w lt there is = grind (arith, nat_tests)
