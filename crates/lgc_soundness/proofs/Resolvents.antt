-- A step by resolution keeps truth, whatever values formulas have.
use Rattle.std.proofs.Common.{◌≡◌, ◌≢◌, ℕ, suc, Bool, true, false, cond, ◌||◌, not, List, [], ◌∷◌, ◌⊎◌, inl, inr, refl, sym, ◌∙◌, ap, arith, ⊎_elim}
use Rattle.std.specs.List.{All, AllPairs}
use Rattle.std.proofs.lemmas.Bool.{or_cases, or_left, or_right, and_from, cond-false, false_from_ne_true}
use Rattle.std.proofs.lemmas.List.Elements.{All-head, All-tail}
use Rattle.lgc_values.specs.Values.{has}
use Rattle.lgc_clauses.proofs.Changes.{has-filter}
use Rattle.lgc_syntax.specs.declared.formula.Formula.{Formula}
use Rattle.lgc_syntax.specs.Equality.{same_formula}
use Rattle.lgc_syntax.proofs.EqualityLaws.{same_formula-Decides}
use Rattle.lgc_sequents.specs.Signed.{SignedFormula}
use Rattle.lgc_sequents.specs.Sequents.{sign_in, is_true_at}
use Rattle.lgc_sequents.specs.Steps.{without, common, IsResolvent}
use Rattle.lgc_sequents.proofs.Laws.{is_true_at-included}
use Rattle.lgc_soundness.proofs.Premises.{true_by_set}

-- a formula that doesn't occur has the empty sign
sign_of_absent : (f : Formula) (items : List SignedFormula) → All (λ item. f ≢ item.formula) items → sign_in items f ≡ []
sign_of_absent f [] absent = refl
sign_of_absent f (x ∷ xs) absent =
    cond-false (same_formula f x.formula) x.sign (sign_in xs f) (false_from_ne_true (same_formula f x.formula) (λ same. All-head (λ (item : SignedFormula). f ≢ item.formula) x xs absent ((same_formula-Decides f x.formula).0 same)))
    ∙ sign_of_absent f xs (All-tail (λ (item : SignedFormula). f ≢ item.formula) x xs absent)

module _ (value : Formula → ℕ) where
  -- the items on other formulas are true, or the formula's value lies in its sign
  abbrev IsDivided : Formula → Bool → List ℕ → Type 0
  IsDivided f others sign = (others ≡ true) ⊎ (has sign (value f) ≡ true)

  divided_step : (f : Formula) (x : SignedFormula) (xs : List SignedFormula) (same : Bool) → same_formula f x.formula ≡ same → (same ≡ true → sign_in xs f ≡ []) → (is_true_at value xs ≡ true → IsDivided f (is_true_at value (without f xs)) (sign_in xs f))
      → (has x.sign (value x.formula) || is_true_at value xs) ≡ true → IsDivided f (is_true_at value (cond (not same) (x ∷ without f xs) (without f xs))) (cond same x.sign (sign_in xs f))
  divided_step f x xs true test alone rest holds = ⊎_elim
      (λ (here : has x.sign (value x.formula) ≡ true). inr (ap (λ g. has x.sign (value g)) ((same_formula-Decides f x.formula).0 test) ∙ here))
      (λ (later : is_true_at value xs ≡ true). ⊎_elim
      (λ (others : is_true_at value (without f xs) ≡ true). inl others)
      (λ (member : has (sign_in xs f) (value f) ≡ true). let gone : has [] (value f) ≡ true = ap (λ set. has set (value f)) (sym (alone refl)) ∙ member in cc)
      (rest later))
      (or_cases (has x.sign (value x.formula)) (is_true_at value xs) holds)
  divided_step f x xs false test alone rest holds = ⊎_elim
      (λ (here : has x.sign (value x.formula) ≡ true). inl (or_left (has x.sign (value x.formula)) (is_true_at value (without f xs)) here))
      (λ (later : is_true_at value xs ≡ true). ⊎_elim
      (λ (others : is_true_at value (without f xs) ≡ true). inl (or_right (has x.sign (value x.formula)) (is_true_at value (without f xs)) others))
      (λ (member : has (sign_in xs f) (value f) ≡ true). inr member)
      (rest later))
      (or_cases (has x.sign (value x.formula)) (is_true_at value xs) holds)

  -- so is a true sequent in which no formula stands twice
  divided : (f : Formula) (items : List SignedFormula) → AllPairs (λ a b. a.formula ≢ b.formula) items → is_true_at value items ≡ true → IsDivided f (is_true_at value (without f items)) (sign_in items f)
  divided f [] distinct holds = cc
  divided f (x ∷ xs) distinct holds =
      let first : All (λ y. x.formula ≢ y.formula) xs = λ i d lt. distinct 0 (suc i) d (omega arith) (omega arith) in
      divided_step f x xs (same_formula f x.formula) refl
      (λ same. sign_of_absent f xs (λ i d lt is. first i d lt (sym ((same_formula-Decides f x.formula).0 same) ∙ is)))
      (divided f xs (λ i j d lt within. distinct (suc i) (suc j) d (omega arith) (omega arith))) holds

  -- where both lines are true, the resolvent is
  pub resolvent_true : (f : Formula) (left right conclusion : List SignedFormula) → IsResolvent f left right conclusion → AllPairs (λ a b. a.formula ≢ b.formula) left → AllPairs (λ a b. a.formula ≢ b.formula) right
      → is_true_at value left ≡ true → is_true_at value right ≡ true → is_true_at value conclusion ≡ true
  resolvent_true f left right conclusion step distinct_left distinct_right holds_left holds_right = ⊎_elim
      (λ (others : is_true_at value (without f left) ≡ true). is_true_at-included value (without f left) conclusion step.left_kept others)
      (λ (in_left : has (sign_in left f) (value f) ≡ true). ⊎_elim
      (λ (others : is_true_at value (without f right) ≡ true). is_true_at-included value (without f right) conclusion step.right_kept others)
      (λ (in_right : has (sign_in right f) (value f) ≡ true).
      true_by_set value conclusion f (common (sign_in left f) (sign_in right f)) step.shared
      (has-filter (has (sign_in right f)) (sign_in left f) (value f) ∙ and_from (has (sign_in left f) (value f)) (has (sign_in right f) (value f)) in_left in_right))
      (divided f right distinct_right holds_right))
      (divided f left distinct_left holds_left)
