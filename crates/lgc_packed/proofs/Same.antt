-- Packed sequents that include each other are the same.
use Rattle.std.proofs.Common.{◌≡◌, ℕ, ◌<◌, ◌≤◌, Bool, true, false, ◌==◌, ◌||◌, ◌&&◌, List, [], ◌∷◌, refl, sym, ◌∙◌, ap, subst, arith, ⊎_elim}
use Rattle.std.specs.Prelude.{All}
use Rattle.std.proofs.lemmas.List.Elements.{All-head, All-tail}
use Rattle.std.proofs.lemmas.Bool.{eq-eqb, ne_eqb, cases_lt, true≢false}
use Rattle.lgc_values.specs.Values.{has}
use Rattle.lgc_values.proofs.ValueLaws.{values_where-alike}
use Rattle.lgc_sequents.specs.Sequents.{IsSign}
use Rattle.lgc_packed.specs.Packed.{IsPacked, marks, IsIncluded}
use Rattle.lgc_packed.proofs.Rising.{IsAbove, IsRising, rising_from, some_member, above_above}
use Rattle.lgc_packed.proofs.Marks.{nothing_below}

-- sets with the same members are the same
same_set : (n : ℕ) (s t : List ℕ) → IsSign n s → IsSign n t → ((w : ℕ) → w < n → has s w ≡ true → has t w ≡ true) → ((w : ℕ) → w < n → has t w ≡ true → has s w ≡ true) → s ≡ t
same_set n s t is_s is_t there back = is_s.set ∙ values_where-alike n (has s) (has t) (λ w l. both (has s w) (has t w) (there w l) (back w l)) ∙ sym is_t.set
  where
    both : (a b : Bool) → (a ≡ true → b ≡ true) → (b ≡ true → a ≡ true) → a ≡ b
    both true b h g = sym (h refl)
    both false true h g = g refl
    both false false h g = refl

-- what stands on the first formula, where the others come later
first_marks : (x : ℕ × List ℕ) (xs : List (ℕ × List ℕ)) (w : ℕ) → IsAbove x.0 xs → marks (x ∷ xs) x.0 w ≡ has x.1 w
first_marks x xs w above = alone (x.0 == x.0) (has x.1 w) (marks xs x.0 w) (eq-eqb x.0 x.0 refl) (nothing_below x.0 xs w above)
  where
    alone : (a b c : Bool) → a ≡ true → c ≡ false → ((a && b) || c) ≡ b
    alone true true c e f = refl
    alone true false c e f = f
    alone false b c e f = absurd (true≢false (sym e))

later_marks : (x : ℕ × List ℕ) (xs : List (ℕ × List ℕ)) (k w : ℕ) → x.0 < k → marks (x ∷ xs) k w ≡ marks xs k w
later_marks x xs k w l = ap (λ t. (t && has x.1 w) || marks xs k w) (ne_eqb x.0 k (λ e. absurd (omega (arith, l, e))))

module _ (n : ℕ) where
  -- a first formula that comes before all of the other sequent isn't in it
  not_before : (x : ℕ × List ℕ) (xs ys : List (ℕ × List ℕ)) → IsSign n x.1 → IsAbove x.0 xs → IsAbove x.0 ys → IsIncluded n (x ∷ xs) ys → ⊥
  not_before x xs ys is above later included =
      let member = some_member n x.1 is in
      true≢false (sym (included x.0 member.0 member.1 (first_marks x xs member.0 above ∙ member.2)) ∙ nothing_below x.0 ys member.0 later)

  -- where the first formulas are the same, the others include each other too
  rest_included : (x y : ℕ × List ℕ) (xs ys : List (ℕ × List ℕ)) → x.0 ≡ y.0 → IsAbove x.0 xs → IsIncluded n (x ∷ xs) (y ∷ ys) → IsIncluded n xs ys
  rest_included x y xs ys same above included k w l m = ⊎_elim
      (λ (before : x.0 < k). sym (later_marks y ys k w (omega (arith, before, same))) ∙ included k w l (later_marks x xs k w before ∙ m))
      (λ (behind : k ≤ x.0). absurd (true≢false (sym m ∙ none k behind)))
      (cases_lt x.0 k)
    where
      none : (k : ℕ) → k ≤ x.0 → marks xs k w ≡ false
      none k behind = ⊎_elim (λ (less : k < x.0). nothing_below k xs w (above_above k x.0 xs less above)) (λ (most : x.0 ≤ k). let e : x.0 ≡ k = omega (arith, behind, most) in subst (λ (j : ℕ). marks xs j w ≡ false) e (nothing_below x.0 xs w above)) (cases_lt k x.0)

  same_rising : (xs ys : List (ℕ × List ℕ)) → IsRising xs → IsRising ys → All (λ pair. IsSign n pair.1) xs → All (λ pair. IsSign n pair.1) ys → IsIncluded n xs ys → IsIncluded n ys xs → xs ≡ ys
  same_rising [] [] rising_xs rising_ys signs_xs signs_ys there back = refl
  same_rising [] (y ∷ ys) rising_xs rising_ys signs_xs signs_ys there back = absurd (not_before y ys [] (All-head (λ pair. IsSign n pair.1) y ys signs_ys) rising_ys.0 tt back)
  same_rising (x ∷ xs) [] rising_xs rising_ys signs_xs signs_ys there back = absurd (not_before x xs [] (All-head (λ pair. IsSign n pair.1) x xs signs_xs) rising_xs.0 tt there)
  same_rising (x ∷ xs) (y ∷ ys) rising_xs rising_ys signs_xs signs_ys there back =
      let same : x.0 ≡ y.0 = number in
      let sign : x.1 ≡ y.1 = same_set n x.1 y.1 sign_x sign_y
      (λ w l m. sym (ap (λ k. marks (y ∷ ys) k w) same ∙ first_marks y ys w rising_ys.0) ∙ there x.0 w l (first_marks x xs w rising_xs.0 ∙ m))
      (λ w l m. sym (ap (λ k. marks (x ∷ xs) k w) (sym same) ∙ first_marks x xs w rising_xs.0) ∙ back y.0 w l (first_marks y ys w rising_ys.0 ∙ m)) in
      (λ j. (same j, sign j) ∷ same_rising xs ys rising_xs.1 rising_ys.1 (All-tail (λ pair. IsSign n pair.1) x xs signs_xs) (All-tail (λ pair. IsSign n pair.1) y ys signs_ys) (rest_included x y xs ys same rising_xs.0 there) (rest_included y x ys xs (sym same) rising_ys.0 back) j)
    where
      sign_x : IsSign n x.1
      sign_x = All-head (λ pair. IsSign n pair.1) x xs signs_xs

      sign_y : IsSign n y.1
      sign_y = All-head (λ pair. IsSign n pair.1) y ys signs_ys

      number : x.0 ≡ y.0
      number = ⊎_elim
          (λ (less : x.0 < y.0). absurd (not_before x xs (y ∷ ys) sign_x rising_xs.0 (less, above_above x.0 y.0 ys less rising_ys.0) there))
          (λ (most : y.0 ≤ x.0). ⊎_elim
          (λ (less : y.0 < x.0). absurd (not_before y ys (x ∷ xs) sign_y rising_ys.0 (less, above_above y.0 x.0 xs less rising_xs.0) back))
          (λ (more : x.0 ≤ y.0). omega (arith, most, more))
          (cases_lt y.0 x.0))
          (cases_lt x.0 y.0)

-- packed sequents that include each other have the same pairs
pub same_pairs : (n : ℕ) (pairs others : List (ℕ × List ℕ)) → IsPacked n pairs → IsPacked n others → IsIncluded n pairs others → IsIncluded n others pairs → pairs ≡ others
same_pairs n pairs others packed packed_others there back = same_rising n pairs others (rising_from pairs packed.rising) (rising_from others packed_others.rising) packed.signs packed_others.signs there back
