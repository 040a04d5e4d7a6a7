-- Where a premise is true, and what that says of its conclusion, whatever values formulas have.
use Rattle.std.proofs.Common.{◌≡◌, ℕ, ◌==◌, Bool, true, false, ◌||◌, ◌&&◌, List, [], ◌∷◌, ◌⊎◌, inl, inr, map, refl, sym, ◌∙◌, ap, ⊎_elim}
use Rattle.std.specs.List.{All, AllZip, list_all}
use Rattle.std.proofs.lemmas.Bool.{and_from, and_parts, or_cases, or_left, or_right, eq-eqb}
use Rattle.std.proofs.lemmas.List.Elements.{All-head, All-tail}
use Rattle.lgc_values.specs.Values.{has}
use Rattle.lgc_clauses.specs.Rules.{some_in}
use Rattle.lgc_syntax.specs.declared.formula.Formula.{Formula}
use Rattle.lgc_syntax.specs.Equality.{same_formula}
use Rattle.lgc_syntax.proofs.EqualityLaws.{same_formula-Decides}
use Rattle.lgc_sequents.specs.Signed.{SignedFormula}
use Rattle.lgc_sequents.specs.Sequents.{sign_in, is_true_at}
use Rattle.lgc_sequents.specs.Steps.{with_signs, carries, are_allowed}
use Rattle.lgc_sequents.proofs.Laws.{list_all-has, is_true_at-included}

-- where each premise makes the conclusion or its clause true, the conclusion is true or each clause is
pub each_clause : {X Y : Type 0} (R : X → Y → Type 0) (P : Y → Type 0) (done : Bool) (test : X → Bool) → ((x : X) (y : Y) → R x y → P y → (done ≡ true) ⊎ (test x ≡ true))
    → (xs : List X) (ys : List Y) → AllZip R xs ys → All P ys → (done ≡ true) ⊎ (list_all test xs ≡ true)
each_clause R P done test one [] [] each all = inr refl
each_clause R P done test one [] (y ∷ ys) each all = absurd each
each_clause R P done test one (x ∷ xs) [] each all = absurd each
each_clause R P done test one (x ∷ xs) (y ∷ ys) each all = ⊎_elim
    (λ (yes : done ≡ true). inl yes)
    (λ (here : test x ≡ true). ⊎_elim
    (λ (yes : done ≡ true). inl yes)
    (λ (rest : list_all test xs ≡ true). inr (and_from (test x) (list_all test xs) here rest))
    (each_clause R P done test one xs ys each.1 (All-tail P y ys all)))
    (one x y each.0 (All-head P y ys all))

-- a sequent whose formulas have the same values elsewhere is true there too
pub is_true_at-alike : (value other : Formula → ℕ) (items : List SignedFormula) → All (λ item. value item.formula ≡ other item.formula) items → is_true_at value items ≡ is_true_at other items
is_true_at-alike value other [] alike = refl
is_true_at-alike value other (x ∷ xs) alike =
    let here : value x.formula ≡ other x.formula = All-head (λ (item : SignedFormula). value item.formula ≡ other item.formula) x xs alike in
    let rest = is_true_at-alike value other xs (All-tail (λ (item : SignedFormula). value item.formula ≡ other item.formula) x xs alike) in
    λ i. has x.sign (here i) || rest i

module _ (value : Formula → ℕ) where
  -- a sequent is true where the value of a formula lies in the formula's sign: it includes the formula with this value alone
  pub true_by_sign : (items : List SignedFormula) (f : Formula) → has (sign_in items f) (value f) ≡ true → is_true_at value items ≡ true
  true_by_sign items f member = is_true_at-included value (record { formula = f; sign = value f ∷ [] } ∷ []) items
      (and_from (has (sign_in items f) (value f) && true) true (and_from (has (sign_in items f) (value f)) true member refl) refl)
      (or_left (has (value f ∷ []) (value f)) false (or_left (value f == value f) false (eq-eqb (value f) (value f) refl)))

  -- so it is where all values of a set lie in the formula's sign, and the value of the formula in the set
  pub true_by_set : (items : List SignedFormula) (f : Formula) (set : List ℕ) → list_all (has (sign_in items f)) set ≡ true → has set (value f) ≡ true → is_true_at value items ≡ true
  true_by_set items f set all member = true_by_sign items f (list_all-has (has (sign_in items f)) set (value f) all member)

  -- so it is where some item gives the formula its value
  carries_true : (items : List SignedFormula) (f : Formula) → carries items f (value f) ≡ true → is_true_at value items ≡ true
  carries_true [] f carried = carried
  carries_true (x ∷ xs) f carried = ⊎_elim
      (λ here.
      let parts = and_parts (same_formula f x.formula) (has x.sign (value f)) here in
      or_left (has x.sign (value x.formula)) (is_true_at value xs) (ap (λ g. has x.sign (value g)) (sym ((same_formula-Decides f x.formula).0 parts.0)) ∙ parts.1))
      (λ later. or_right (has x.sign (value x.formula)) (is_true_at value xs) (carries_true xs f later))
      (or_cases (same_formula f x.formula && has x.sign (value f)) (carries xs f (value f)) carried)

  -- where a premise is true, its conclusion is, or what its clause puts into it
  pub premise_true : (conclusion auxiliary items : List SignedFormula) → are_allowed conclusion auxiliary items ≡ true → is_true_at value items ≡ true → (is_true_at value conclusion ≡ true) ⊎ (is_true_at value auxiliary ≡ true)
  premise_true conclusion auxiliary [] allowed holds = cc
  premise_true conclusion auxiliary (x ∷ xs) allowed holds =
      let test : ℕ → Bool = λ v. has (sign_in conclusion x.formula) v || carries auxiliary x.formula v in
      let parts = and_parts (list_all test x.sign) (are_allowed conclusion auxiliary xs) allowed in
      ⊎_elim
      (λ (here : has x.sign (value x.formula) ≡ true). ⊎_elim
      (λ own. inl (true_by_sign conclusion x.formula own))
      (λ carried. inr (carries_true auxiliary x.formula carried))
      (or_cases (has (sign_in conclusion x.formula) (value x.formula)) (carries auxiliary x.formula (value x.formula)) (list_all-has test x.sign (value x.formula) parts.0 here)))
      (λ (later : is_true_at value xs ≡ true). premise_true conclusion auxiliary xs parts.1 later)
      (or_cases (has x.sign (value x.formula)) (is_true_at value xs) holds)

  -- formulas with signs are true where one of the signs has the value of its formula
  pub is_true_at-with_signs : (signs : List (List ℕ)) (formulas : List Formula) → is_true_at value (with_signs signs formulas) ≡ some_in signs (map value formulas)
  is_true_at-with_signs [] formulas = refl
  is_true_at-with_signs (sign ∷ signs) [] = refl
  is_true_at-with_signs (sign ∷ signs) (f ∷ formulas) = ap (λ b. has sign (value f) || b) (is_true_at-with_signs signs formulas)
