-- Where sequents are true.
use Rattle.std.proofs.Common.{◌≡◌, ℕ, ◌<◌, true, ◌==◌, ◌&&◌, List, [], ◌∷◌, refl, sym, ◌∙◌, ap, ⊎_elim}
use Rattle.std.proofs.lemmas.Bool.{eqb-true, eq-eqb, and_parts, and_from, or_cases, or_left, or_right, lt-ltb, true≢false}
use Rattle.lgc_values.specs.Values.{has, values_where}
use Rattle.lgc_values.proofs.ValueLaws.{has-values_where}
use Rattle.lgc_sequents.specs.Sequents.{has_all}
use Rattle.lgc_packed.specs.Packed.{marks, IsIncluded, is_true_of, is_full}
use Rattle.lgc_packed.proofs.InclusionLaws.{all_has}

-- a full set has each value
pub has-all : (n : ℕ) (set : List ℕ) (v : ℕ) → has_all n set ≡ true → v < n → has set v ≡ true
has-all n set v full l = all_has (has set) (values_where n (λ _. true)) v full (has-values_where n (λ _. true) v ∙ ap (λ b. b && true) (lt-ltb v n l))

module _ (value : ℕ → ℕ) where
  -- a sequent is true where the value of a formula stands on it
  pub true_from_mark : (xs : List (ℕ × List ℕ)) (k : ℕ) → marks xs k (value k) ≡ true → is_true_of value xs ≡ true
  true_from_mark [] k m = absurd (true≢false (sym m))
  true_from_mark (x ∷ xs) k m = ⊎_elim
      (λ here. let both = and_parts (x.0 == k) (has x.1 (value k)) here in or_left (has x.1 (value x.0)) (is_true_of value xs) (ap (λ j. has x.1 (value j)) (eqb-true x.0 k both.0) ∙ both.1))
      (λ later. or_right (has x.1 (value x.0)) (is_true_of value xs) (true_from_mark xs k later))
      (or_cases ((x.0 == k) && has x.1 (value k)) (marks xs k (value k)) m)

  -- and only there
  pub mark_from_true : (xs : List (ℕ × List ℕ)) → is_true_of value xs ≡ true → (k : ℕ) × (marks xs k (value k) ≡ true)
  mark_from_true [] holds = absurd (true≢false (sym holds))
  mark_from_true (x ∷ xs) holds = ⊎_elim
      (λ here. (x.0, or_left ((x.0 == x.0) && has x.1 (value x.0)) (marks xs x.0 (value x.0)) (and_from (x.0 == x.0) (has x.1 (value x.0)) (eq-eqb x.0 x.0 refl) here)))
      (λ later. let found = mark_from_true xs later in (found.0, or_right ((x.0 == found.0) && has x.1 (value found.0)) (marks xs found.0 (value found.0)) found.1))
      (or_cases (has x.1 (value x.0)) (is_true_of value xs) holds)

  -- a sequent that includes a true one is true
  pub is_true_of-included : (n : ℕ) → ((k : ℕ) → value k < n) → (xs ys : List (ℕ × List ℕ)) → IsIncluded n xs ys → is_true_of value xs ≡ true → is_true_of value ys ≡ true
  is_true_of-included n below xs ys included holds = let found = mark_from_true xs holds in true_from_mark ys found.0 (included found.0 (value found.0) (below found.0) found.1)

  -- a sequent with a full sign is true at all values
  pub is_true_of-full : (n : ℕ) → ((k : ℕ) → value k < n) → (xs : List (ℕ × List ℕ)) → is_full n xs ≡ true → is_true_of value xs ≡ true
  is_true_of-full n below [] full = absurd (true≢false (sym full))
  is_true_of-full n below (x ∷ xs) full = ⊎_elim
      (λ here. or_left (has x.1 (value x.0)) (is_true_of value xs) (has-all n x.1 (value x.0) here (below x.0)))
      (λ later. or_right (has x.1 (value x.0)) (is_true_of value xs) (is_true_of-full n below xs later))
      (or_cases (has_all n x.1) (is_full n xs) full)
