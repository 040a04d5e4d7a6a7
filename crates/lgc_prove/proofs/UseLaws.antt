-- Numbers by first use, and what other numbers make of them.
use Rattle.std.proofs.Common.{◌≡◌, ◌≢◌, ℕ, zero, suc, ◌+◌, ◌<◌, ◌≤◌, ◌==◌, ◌||◌, Bool, true, false, cond, List, [], ◌∷◌, ◌++◌, length, map, take, get_or, refl, sym, ap, ◌∙◌, true≢false, ⊎_elim, arith}
use Rattle.std.specs.Prelude.{All, AllPairs, Contains}
use Rattle.std.specs.List.{list_any, fold, position_or_len, range_with_len}
use Rattle.std.proofs.lemmas.Bool.{cases_lt, or_left, or_right, eqb-true, eq-eqb, ne_eqb}
use Rattle.std.proofs.lemmas.List.{map-append, map_more, take_all}
use Rattle.std.proofs.lemmas.List.Elements.{All-nil, All-cons, All-head, All-tail, All-push}
use Rattle.std.proofs.lemmas.List.Folds.{list_any_at, list_any_none, list_any-append}
use Rattle.std.proofs.lemmas.List.Quantifiers.{all_pairs_push}
use Rattle.std.proofs.lemmas.List.Sums.{position_or_len_is, fails_before_first, passes_at_first}
use Rattle.lgc_proofs.proofs.StoreLaws.{range_more}
use Rattle.lgc_prove.specs.ByUse.{with_number, first_uses}
use Rattle.lgc_prove.specs.Uses.{number_in}

-- whether a number is among others
abbrev pub among : List ℕ → ℕ → Bool
among numbers k = list_any (λ j. k == j) numbers

-- ---- one more number

with_among : (b : Bool) (numbers : List ℕ) (j k : ℕ) → among numbers k ≡ true → among (cond b numbers (numbers ++ j ∷ [])) k ≡ true
with_among true numbers j k there = there
with_among false numbers j k there = list_any-append (λ i. k == i) numbers (j ∷ []) ∙ or_left (among numbers k) (among (j ∷ []) k) there

with_itself : (b : Bool) (numbers : List ℕ) (k : ℕ) → among numbers k ≡ b → among (cond b numbers (numbers ++ k ∷ [])) k ≡ true
with_itself true numbers k is = is
with_itself false numbers k is = list_any-append (λ i. k == i) numbers (k ∷ []) ∙ or_right (among numbers k) (among (k ∷ []) k) (or_left (k == k) false (eq-eqb k k refl))

with_all : (P : ℕ → Type 0) (b : Bool) (numbers : List ℕ) (k : ℕ) → All P numbers → P k → All P (cond b numbers (numbers ++ k ∷ []))
with_all P true numbers k all here = all
with_all P false numbers k all here = All-push P numbers k all here

with_distinct : (b : Bool) (numbers : List ℕ) (k : ℕ) → among numbers k ≡ b → AllPairs (λ i j. i ≢ j) numbers → AllPairs (λ i j. i ≢ j) (cond b numbers (numbers ++ k ∷ []))
with_distinct true numbers k is distinct = distinct
with_distinct false numbers k is distinct =
    all_pairs_push (λ i j. i ≢ j) numbers k distinct (λ i d lt same. true≢false (sym (list_any_at (λ j. k == j) numbers i d lt (eq-eqb k (get_or numbers i d) (sym same))) ∙ is))

-- ---- first uses

stays_among : (ks numbers : List ℕ) (k : ℕ) → among numbers k ≡ true → among (fold with_number numbers ks) k ≡ true
stays_among [] numbers k there = there
stays_among (j ∷ ks) numbers k there = stays_among ks (with_number numbers j) k (with_among (among numbers j) numbers j k there)

each_among : (ks numbers : List ℕ) → All (λ k. among (fold with_number numbers ks) k ≡ true) ks
each_among [] numbers = All-nil (λ k. among numbers k ≡ true)
each_among (k ∷ ks) numbers = All-cons (λ j. among (fold with_number numbers (k ∷ ks)) j ≡ true) k ks (stays_among ks (with_number numbers k) k (with_itself (among numbers k) numbers k refl)) (each_among ks (with_number numbers k))

fold_all : (P : ℕ → Type 0) (ks numbers : List ℕ) → All P numbers → All P ks → All P (fold with_number numbers ks)
fold_all P [] numbers all each = all
fold_all P (k ∷ ks) numbers all each = fold_all P ks (with_number numbers k) (with_all P (among numbers k) numbers k all (All-head P k ks each)) (All-tail P k ks each)

fold_distinct : (ks numbers : List ℕ) → AllPairs (λ i j. i ≢ j) numbers → AllPairs (λ i j. i ≢ j) (fold with_number numbers ks)
fold_distinct [] numbers distinct = distinct
fold_distinct (k ∷ ks) numbers distinct = fold_distinct ks (with_number numbers k) (with_distinct (among numbers k) numbers k refl distinct)

-- each number has a first use
pub are_used : (ks : List ℕ) → All (λ k. among (first_uses ks) k ≡ true) ks
are_used ks = each_among ks []

pub first_uses_all : (P : ℕ → Type 0) (ks : List ℕ) → All P ks → All P (first_uses ks)
first_uses_all P ks each = fold_all P ks [] (All-nil P) each

pub first_uses_distinct : (ks : List ℕ) → AllPairs (λ i j. i ≢ j) (first_uses ks)
first_uses_distinct ks = fold_distinct ks [] (λ i j d lt within. absurd (omega (arith, within)))

-- ---- places

module _ (uses : List ℕ) where
  pub place_within : (k : ℕ) → among uses k ≡ true → position_or_len (λ j. k == j) uses < length uses
  place_within k there =
      let p : ℕ → Bool = λ j. k == j in
      ⊎_elim
      (λ (lt : position_or_len p uses < length uses). lt)
      (λ (le : length uses ≤ position_or_len p uses). absurd (true≢false (sym there ∙ list_any_none p uses (λ i d lt. fails_before_first p uses i d (omega (arith, lt, le))))))
      (cases_lt (position_or_len p uses) (length uses))

  pub at_place : (k d : ℕ) → among uses k ≡ true → get_or uses (position_or_len (λ j. k == j) uses) d ≡ k
  at_place k d there = sym (eqb-true k _ (passes_at_first (λ j. k == j) uses d (place_within k there)))

  pub contained : (k : ℕ) → among uses k ≡ true → Contains uses k
  contained k there = (position_or_len (λ j. k == j) uses, place_within k there, at_place k k there)

  -- a number in use has a new number of its own
  same_number : (j k : ℕ) → among uses j ≡ true → (number_in uses k == number_in uses j) ≡ (k == j)
  same_number j k there = by (k == j) refl where
    by : (b : Bool) → (k == j) ≡ b → (number_in uses k == number_in uses j) ≡ b
    by true is = eq-eqb (number_in uses k) (number_in uses j) (ap (number_in uses) (eqb-true k j is))
    by false is = ne_eqb (number_in uses k) (number_in uses j) (λ same.
        let places : position_or_len (λ i. k == i) uses ≡ position_or_len (λ i. j == i) uses = omega (arith, same) in
        let within : position_or_len (λ i. k == i) uses < length uses = omega (arith, places, place_within j there) in
        let own : k ≡ get_or uses (position_or_len (λ i. k == i) uses) 0 = eqb-true k _ (passes_at_first (λ i. k == i) uses 0 within) in
        true≢false (sym (eq-eqb k j (own ∙ ap (λ p. get_or uses p 0) places ∙ at_place j 0 there)) ∙ is))

  tests_same : (numbers : List ℕ) (k : ℕ) → All (λ j. among uses j ≡ true) numbers → among (map (number_in uses) numbers) (number_in uses k) ≡ among numbers k
  tests_same [] k all = refl
  tests_same (j ∷ numbers) k all =
      let here = same_number j k (All-head (λ i. among uses i ≡ true) j numbers all) in
      let later = tests_same numbers k (All-tail (λ i. among uses i ≡ true) j numbers all) in
      λ i. here i || later i

  with_mapped : (b c : Bool) (numbers : List ℕ) (k : ℕ) → c ≡ b → cond c (map (number_in uses) numbers) (map (number_in uses) numbers ++ number_in uses k ∷ []) ≡ map (number_in uses) (cond b numbers (numbers ++ k ∷ []))
  with_mapped true c numbers k e = ap (λ t. cond t (map (number_in uses) numbers) (map (number_in uses) numbers ++ number_in uses k ∷ [])) e
  with_mapped false c numbers k e = ap (λ t. cond t (map (number_in uses) numbers) (map (number_in uses) numbers ++ number_in uses k ∷ [])) e ∙ sym (map-append (number_in uses) numbers (k ∷ []))

  fold_mapped : (ks numbers : List ℕ) → All (λ j. among uses j ≡ true) numbers → All (λ j. among uses j ≡ true) ks → fold with_number (map (number_in uses) numbers) (map (number_in uses) ks) ≡ map (number_in uses) (fold with_number numbers ks)
  fold_mapped [] numbers all each = refl
  fold_mapped (k ∷ ks) numbers all each =
      let here = All-head (λ j. among uses j ≡ true) k ks each in
      ap (λ start. fold with_number start (map (number_in uses) ks)) (with_mapped (among numbers k) (among (map (number_in uses) numbers) (number_in uses k)) numbers k (tests_same numbers k all))
      ∙ fold_mapped ks (with_number numbers k) (with_all (λ j. among uses j ≡ true) (among numbers k) numbers k all here) (All-tail (λ j. among uses j ≡ true) k ks each)

  number_at : (i d : ℕ) → AllPairs (λ a b. a ≢ b) uses → i < length uses → number_in uses (get_or uses i d) ≡ i + 1
  number_at i d distinct lt =
      let k = get_or uses i d in
      ap (λ p. p + 1) (position_or_len_is (λ j. k == j) uses i d (omega (arith, lt)) (λ j before. ne_eqb k (get_or uses j d) (λ same. distinct j i d before lt (sym same))) (λ _. eq-eqb k k refl))

  numbers_rise : (i : ℕ) → AllPairs (λ a b. a ≢ b) uses → i ≤ length uses → map (number_in uses) (take i uses) ≡ range_with_len 1 i
  numbers_rise zero distinct le = refl
  numbers_rise (suc i) distinct le =
      let next : suc i ≡ i + 1 = omega arith in
      let lt : i < length uses = omega (arith, le) in
      let before = numbers_rise i distinct (omega (arith, le)) in
      let here = number_at i 0 distinct lt in
      ap (λ k. map (number_in uses) (take k uses)) next
      ∙ map_more (number_in uses) uses i 0 lt
      ∙ (λ j. before j ++ here j ∷ [])
      ∙ sym (range_more 1 i (i + 1) (omega arith))
      ∙ ap (range_with_len 1) (sym next)

-- the new numbers are 1, 2 and so on in the order of their first use
pub new_numbers : (ks : List ℕ) → first_uses (map (number_in (first_uses ks)) ks) ≡ range_with_len 1 (length (first_uses ks))
new_numbers ks =
    let uses = first_uses ks in
    fold_mapped uses ks [] (All-nil (λ j. among uses j ≡ true)) (are_used ks)
    ∙ ap (map (number_in uses)) (sym (take_all (length uses) uses (omega arith)))
    ∙ numbers_rise uses (length uses) (first_uses_distinct ks) (omega arith)
