-- A branch on which a tableau is closed is true under every valuation.
use Rattle.std.proofs.Common.{◌≡◌, ℕ, ◌<◌, ◌⊎◌, inl, inr, ◌||◌, ◌&&◌, Bool, true, false, List, [], ◌∷◌, ◌++◌, map, length, refl, ap, sym, ◌∙◌, subst, arith, ⊎_elim}
use Rattle.std.specs.List.{list_all, list_any, All}
use Rattle.std.proofs.lemmas.Bool.{and_parts, and_from, or_cases, or_left, or_right}
use Rattle.std.proofs.lemmas.List.{length-map}
use Rattle.std.proofs.lemmas.List.Elements.{All-head, All-tail, All-map}
use Rattle.std.proofs.lemmas.List.Folds.{list_any-append}
use Rattle.lgc_values.specs.Values.{has}
use Rattle.lgc_values.specs.Logic.{Logic, IsLogic}
use Rattle.lgc_clauses.specs.Rules.{some_in}
use Rattle.lgc_syntax.specs.declared.formula.Formula.{Formula, Op}
use Rattle.lgc_syntax.specs.Equality.{same_formula}
use Rattle.lgc_syntax.specs.Values.{operation, value, IsValuation}
use Rattle.lgc_syntax.proofs.EqualityLaws.{same_formula-Decides}
use Rattle.lgc_syntax.proofs.ValueLaws.{value-Op}
use Rattle.lgc_sequents.specs.Signed.{SignedFormula}
use Rattle.lgc_sequents.specs.Sequents.{is_true_at}
use Rattle.lgc_sequents.specs.Steps.{carries}
use Rattle.lgc_calculus.proofs.ArgumentLaws.{exact_at_arguments}
use Rattle.lgc_goals.proofs.TruthValues.{HasValues-value}
use Rattle.lgc_tableau.specs.ClosedTableaux.{PlainTableau, PlainCase, CarriesAll, sets_of, rule_of, IsSplit, IsClosed, AreClosed, closed_by, split_on, none_left, one_more}

module _ (val : Formula → ℕ) where
  pub is_true_at-append : (xs ys : List SignedFormula) → is_true_at val (xs ++ ys) ≡ (is_true_at val xs || is_true_at val ys)
  is_true_at-append xs ys = list_any-append (λ item. has item.sign (val item.formula)) xs ys

  -- what a case adds is true where its sets hold of the arguments' values
  pub is_true_at-case : (xs : List SignedFormula) → is_true_at val xs ≡ some_in (map (λ item. item.sign) xs) (map val (map (λ item. item.formula) xs))
  is_true_at-case [] = refl
  is_true_at-case (x ∷ xs) = ap (λ b. has x.sign (val x.formula) || b) (is_true_at-case xs)

  -- a branch is true where the value of a formula stands on it
  pub carried_true : (branch : List SignedFormula) (f : Formula) → carries branch f (val f) ≡ true → is_true_at val branch ≡ true
  carried_true [] f carried = carried
  carried_true (x ∷ xs) f carried = ⊎_elim
      (λ here. let parts = and_parts (same_formula f x.formula) (has x.sign (val f)) here in or_left (has x.sign (val x.formula)) (is_true_at val xs) (ap (λ g. has x.sign (val g)) (sym ((same_formula-Decides f x.formula).0 parts.0)) ∙ parts.1))
      (λ later. or_right (has x.sign (val x.formula)) (is_true_at val xs) (carried_true xs f later))
      (or_cases (same_formula f x.formula && has x.sign (val f)) (carries xs f (val f)) carried)

module _ (logic : Logic) (is : IsLogic logic) (v : Formula → ℕ) (valuation : IsValuation logic v) where
  -- an exact rule at the values of arguments
  pub split_exact : (branch : List SignedFormula) (op : ℕ) (args : List Formula) (sign : List ℕ) (cases : List PlainCase) → IsSplit logic branch op args sign cases
      → has sign (value logic v (Op op args)) ≡ list_all (λ sets. some_in sets (map (value logic v) args)) (map sets_of cases)
  split_exact branch op args sign cases split =
      ap (has sign) (value-Op logic v op args)
      ∙ exact_at_arguments logic (rule_of op sign cases) is.sized split.fits split.exact (map (value logic v) args) (length-map args (value logic v) ∙ split.arity)
      (All-map (λ w. w < logic.size) (value logic v) args (λ i d lt. HasValues-value logic is v valuation _))

  mutual
    pub closed_true : (branch : List SignedFormula) (t : PlainTableau) → IsClosed logic branch t → is_true_at (value logic v) branch ≡ true
    closed_true _ _ (closed_by branch f full) = carried_true (value logic v) branch f (full (value logic v f) (HasValues-value logic is v valuation f))
    closed_true _ _ (split_on branch op args sign cases split below) = ⊎_elim
        (λ done. done)
        (λ all. carried_true (value logic v) branch (Op op args) (sym (split.whole (value logic v (Op op args)) (HasValues-value logic is v valuation (Op op args))) ∙ split_exact branch op args sign cases split ∙ all))
        (cases_true branch cases args split.formulas below)

    cases_true : (branch : List SignedFormula) (cases : List PlainCase) (args : List Formula) → All (λ case. map (λ item. item.formula) case.added ≡ args) cases → AreClosed logic branch cases
        → (is_true_at (value logic v) branch ≡ true) ⊎ (list_all (λ sets. some_in sets (map (value logic v) args)) (map sets_of cases) ≡ true)
    cases_true _ _ args formulas (none_left branch) = inr refl
    cases_true _ _ args formulas (one_more branch case cases here rest) =
        let val : Formula → ℕ = value logic v in
        let one : (is_true_at val branch || is_true_at val case.added) ≡ true = sym (is_true_at-append val branch case.added) ∙ closed_true (branch ++ case.added) case.below here in
        let own : map (λ item. item.formula) case.added ≡ args = All-head (λ (c : PlainCase). map (λ item. item.formula) c.added ≡ args) case cases formulas in
        ⊎_elim (λ done. inl done)
        (λ added. ⊎_elim (λ done. inl done)
        (λ all. inr (and_from (some_in (sets_of case) (map val args)) (list_all (λ sets. some_in sets (map val args)) (map sets_of cases)) (ap (λ fs. some_in (sets_of case) (map val fs)) (sym own) ∙ sym (is_true_at-case val case.added) ∙ added) all))
        (cases_true branch cases args (All-tail (λ (c : PlainCase). map (λ item. item.formula) c.added ≡ args) case cases formulas) rest))
        (or_cases (is_true_at val branch) (is_true_at val case.added) one)
