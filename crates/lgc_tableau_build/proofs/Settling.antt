-- What is left settles a branch, until nothing is.
use Rattle.std.proofs.Common.{◌≡◌, ℕ, zero, suc, ◌<◌, ◌⊎◌, ◌||◌, ◌&&◌, ◌==◌, not, Bool, true, false, List, [], ◌∷◌, ◌++◌, map, length, get_or, refl, ap, sym, ◌∙◌, subst, arith, ⊎_elim}
use Rattle.std.specs.Prelude.{nat_lt}
use Rattle.std.specs.List.{list_all, All}
use Rattle.std.proofs.lemmas.Bool.{and_parts, or_parts, eq-eqb, ltb-true, lt-ltb, or_left, true≢false}
use Rattle.std.proofs.lemmas.List.Elements.{All-nil, All-cons, All-head, All-tail}
use Rattle.std.proofs.lemmas.List.Folds.{list_any-append, list_any_none}
use Rattle.lgc_values.specs.Values.{has, values_where}
use Rattle.lgc_values.specs.Logic.{Logic, IsLogic}
use Rattle.lgc_values.proofs.ValueLaws.{has-values_where}
use Rattle.lgc_clauses.specs.Rules.{some_in}
use Rattle.lgc_syntax.specs.declared.formula.Formula.{Formula, Op, Quant}
use Rattle.lgc_syntax.specs.Equality.{same_formula}
use Rattle.lgc_syntax.specs.Values.{value, IsValuation}
use Rattle.lgc_syntax.proofs.Folds.{fold-Op, fold-Quant}
use Rattle.lgc_syntax.proofs.EqualityLaws.{same_formula-Decides}
use Rattle.lgc_syntax.proofs.Induction.{formula_induction}
use Rattle.lgc_syntax.proofs.ValueLaws.{value-Atom}
use Rattle.lgc_sequents.specs.Signed.{SignedFormula}
use Rattle.lgc_sequents.specs.Sequents.{is_true_at}
use Rattle.lgc_sequents.specs.Steps.{carries}
use Rattle.lgc_meaning.specs.Valuations.{is_atom, is_atom_layer}
use Rattle.lgc_goals.proofs.TruthValues.{HasValues-value}
use Rattle.lgc_tableau.specs.OrderlyTableaux.{IsUnclosed}
use Rattle.lgc_tableau.proofs.ClosedLaws.{is_true_at-append, is_true_at-case}
use Rattle.lgc_tableau_build.specs.Building.{Settles}

false_unless : (b : Bool) → (b ≡ true → ⊥) → b ≡ false
false_unless true wrong = absurd (wrong refl)
false_unless false wrong = refl

pub carries-append : (xs ys : List SignedFormula) (f : Formula) (w : ℕ) → carries (xs ++ ys) f w ≡ (carries xs f w || carries ys f w)
carries-append xs ys f w = list_any-append (λ item. same_formula f item.formula && has item.sign w) xs ys

-- a value that a branch doesn't carry on a formula is in none of the formula's signs
uncarried : (branch : List SignedFormula) (f : Formula) (w : ℕ) → carries branch f w ≡ false → All (λ item. item.formula ≡ f → has item.sign w ≡ false) branch
uncarried [] f w none = All-nil (λ item. item.formula ≡ f → has item.sign w ≡ false)
uncarried (x ∷ xs) f w none =
    let parts = or_parts (same_formula f x.formula && has x.sign w) (carries xs f w) none in
    All-cons (λ item. item.formula ≡ f → has item.sign w ≡ false) x xs (λ same. ap (λ b. b && has x.sign w) (sym ((same_formula-Decides f x.formula).1 (sym same))) ∙ parts.0) (uncarried xs f w parts.1)

-- a branch is false where none of its formulas takes a value that it has there
pub false_where : (val : Formula → ℕ) (branch : List SignedFormula) → All (λ item. carries branch item.formula (val item.formula) ≡ false) branch → is_true_at val branch ≡ false
false_where val branch none = list_any_none (λ item. has item.sign (val item.formula)) branch (λ i d lt. uncarried branch (get_or branch i d).formula (val (get_or branch i d).formula) (none i d lt) i d lt refl)

-- what is true of the formulas of items
of_formulas : (P : Formula → Type 0) (items : List SignedFormula) → All P (map (λ item. item.formula) items) → All (λ item. P item.formula) items
of_formulas P [] all = All-nil (λ item. P item.formula)
of_formulas P (x ∷ xs) all = All-cons (λ item. P item.formula) x xs (All-head P x.formula (map (λ item. item.formula) xs) all) (of_formulas P xs (All-tail P x.formula (map (λ item. item.formula) xs) all))

-- one that fails
not_all : {X : Type 0} (p : X → Bool) (xs : List X) (i : ℕ) (x : X) → i < length xs → get_or xs i x ≡ x → p x ≡ false → list_all p xs ≡ false
not_all p [] i x lt at fails = absurd (omega (arith, lt))
not_all p (y ∷ ys) zero x lt at fails = ap (λ z. p z && list_all p ys) at ∙ ap (λ b. b && list_all p ys) fails
not_all p (y ∷ ys) (suc i) x lt at fails = last (p y) (list_all p ys) (not_all p ys i x (omega (arith, lt)) at fails)
  where
    last : (a b : Bool) → b ≡ false → (a && b) ≡ false
    last true b e = e
    last false b e = refl

module _ (logic : Logic) (is : IsLogic logic) where
  -- a goal whose formulas are left
  pub settles_start : (Left : Formula → Type 0) (goal : List SignedFormula) → All (λ item. Left item.formula) goal → Settles logic Left goal
  settles_start Left goal all v valuation avoids = false_where (value logic v) goal (λ i d lt. avoids (get_or goal i d).formula (all i d lt))

  -- without a formula that has no value on the branch
  pub settles_skip : (Left Rest : Formula → Type 0) (branch : List SignedFormula) (g : Formula) → ((f : Formula) → Left f → Rest f ⊎ (f ≡ g)) → ((w : ℕ) → w < logic.size → carries branch g w ≡ false) → Settles logic Left branch → Settles logic Rest branch
  settles_skip Left Rest branch g fewer none settles v valuation avoids = settles v valuation (λ f left. ⊎_elim
      (λ rest. avoids f rest)
      (λ same. ap (λ h. carries branch h (value logic v h)) same ∙ none (value logic v g) (HasValues-value logic is v valuation g))
      (fewer f left))

  -- with a case of a split
  pub settles_split : (Left Rest : Formula → Type 0) (branch added : List SignedFormula) (op : ℕ) (args : List Formula) (sign : List ℕ) (clauses : List (List (List ℕ))) (i : ℕ)
      → ((w : ℕ) → w < logic.size → has sign w ≡ carries branch (Op op args) w)
      → ((v : Formula → ℕ) → IsValuation logic v → has sign (value logic v (Op op args)) ≡ list_all (λ sets. some_in sets (map (value logic v) args)) clauses)
      → i < length clauses → get_or clauses i (map (λ item. item.sign) added) ≡ map (λ item. item.sign) added
      → map (λ item. item.formula) added ≡ args → All Rest args → ((f : Formula) → Left f → Rest f ⊎ (f ≡ Op op args))
      → Settles logic Left branch → Settles logic Rest (branch ++ added)
  settles_split Left Rest branch added op args sign clauses i whole exact there chosen formulas all fewer settles v valuation avoids =
      is_true_at-append val branch added ∙ (λ j. branch_false j || added_false j)
    where
      val : Formula → ℕ
      val = value logic v

      parts : (f : Formula) → Rest f → (carries branch f (val f) ≡ false) × (carries added f (val f) ≡ false)
      parts f rest = or_parts (carries branch f (val f)) (carries added f (val f)) (sym (carries-append branch added f (val f)) ∙ avoids f rest)

      added_false : is_true_at val added ≡ false
      added_false = false_where val added (λ k d lt. (parts (get_or added k d).formula (of_formulas Rest added (subst (All Rest) (sym formulas) all) k d lt)).1)

      clause_false : some_in (map (λ item. item.sign) added) (map val args) ≡ false
      clause_false = ap (λ fs. some_in (map (λ item. item.sign) added) (map val fs)) (sym formulas) ∙ sym (is_true_at-case val added) ∙ added_false

      outside : has sign (val (Op op args)) ≡ false
      outside = exact v valuation ∙ not_all (λ sets. some_in sets (map val args)) clauses i (map (λ item. item.sign) added) there chosen clause_false

      branch_false : is_true_at val branch ≡ false
      branch_false = settles v valuation (λ f left. ⊎_elim
          (λ rest. (parts f rest).0)
          (λ same. ap (λ h. carries branch h (val h)) same ∙ sym (whole (val (Op op args)) (HasValues-value logic is v valuation (Op op args))) ∙ outside)
          (fewer f left))

-- ---- where only atoms are left

first_of : List ℕ → ℕ
first_of [] = 0
first_of (v ∷ vs) = v

-- the least value that a branch doesn't carry on a formula
pub outside_value : ℕ → List SignedFormula → Formula → ℕ
outside_value n branch f = first_of (values_where n (λ w. not (carries branch f w)))

not_false : (b : Bool) → not b ≡ true → b ≡ false
not_false true e = sym e
not_false false e = refl

not_true : (b : Bool) → not b ≡ false → b ≡ true
not_true true e = refl
not_true false e = sym e

module _ (n : ℕ) (branch : List SignedFormula) (unclosed : IsUnclosed n branch) (f : Formula) where
  test : ℕ → Bool
  test w = not (carries branch f w)

  find : (values : List ℕ) → values_where n test ≡ values → (first_of values < n) × (carries branch f (first_of values) ≡ false)
  unfolding test first_of
  find [] is = absurd (unclosed f (λ w lt. not_true (carries branch f w) (sym (ap (λ b. b && not (carries branch f w)) (lt-ltb w n lt)) ∙ sym (has-values_where n test w) ∙ ap (λ s. has s w) is)))
  find (v ∷ values) is =
      let member : has (v ∷ values) v ≡ true = or_left (v == v) (has values v) (eq-eqb v v refl) in
      let both = and_parts (nat_lt v n) (test v) (sym (has-values_where n test v) ∙ ap (λ s. has s v) is ∙ member) in
      (ltb-true v n both.0, not_false (carries branch f v) both.1)

  pub outside_is : (outside_value n branch f < n) × (carries branch f (outside_value n branch f) ≡ false)
  unfolding outside_value test
  outside_is = find (values_where n test) refl

pub is_atom-Op : (op : ℕ) (args : List Formula) → is_atom (Op op args) ≡ false
unfolding is_atom
is_atom-Op op args = fold-Op Bool is_atom_layer op args

is_atom-Quant : (q : ℕ) (body : Formula) → is_atom (Quant q body) ≡ false
unfolding is_atom
is_atom-Quant q body = fold-Quant Bool is_atom_layer q body

value_of_atom : (logic : Logic) (v : Formula → ℕ) (f : Formula) → is_atom f ≡ true → value logic v f ≡ v f
value_of_atom logic v = formula_induction (λ f. is_atom f ≡ true → value logic v f ≡ v f)
    (λ p args atom. value-Atom logic v p args)
    (λ o args each atom. absurd (true≢false (sym atom ∙ is_atom-Op o args)))
    (λ q body more atom. absurd (true≢false (sym atom ∙ is_atom-Quant q body)))

-- an unclosed branch that only atoms settle is false under some valuation
pub settled_false : (logic : Logic) (Left : Formula → Type 0) (branch : List SignedFormula) → ((f : Formula) → Left f → is_atom f ≡ true) → IsUnclosed logic.size branch → Settles logic Left branch
    → (v : Formula → ℕ) × (IsValuation logic v) × (is_true_at (value logic v) branch ≡ false)
settled_false logic Left branch atoms unclosed settles =
    let v : Formula → ℕ = outside_value logic.size branch in
    let valuation : IsValuation logic v = λ f. (outside_is logic.size branch unclosed f).0 in
    (v, valuation, settles v valuation (λ f left. ap (carries branch f) (value_of_atom logic v f (atoms f left)) ∙ (outside_is logic.size branch unclosed f).1))
