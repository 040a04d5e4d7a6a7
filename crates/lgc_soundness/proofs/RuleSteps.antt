-- A step by an exact rule keeps truth in structures: where its premises hold, its conclusion does.
use Rattle.std.proofs.Common.{◌≡◌, ◌≢◌, ℕ, ◌+◌, ◌<◌, ◌≤◌, Bool, true, false, cond, List, [], ◌∷◌, ◌++◌, ◌⊎◌, inl, inr, map, length, drop, get_or, refl, sym, ◌∙◌, ap, subst, arith, ⊎_elim}
use Rattle.std.specs.List.{All, AllPairs, AllByRecursion, list_all, list_any}
use Rattle.std.proofs.lemmas.Bool.{true≢false, both_ways, and_parts, or_parts, or_from, cases_Bool, eqb-true}
use Rattle.std.proofs.lemmas.List.{length-map, length-take-le, take-append-drop, map-append}
use Rattle.std.proofs.lemmas.List.Elements.{All-head, All-tail, All-map, All-weaker, recursion_from_All}
use Rattle.std.proofs.lemmas.List.FromFn.{length-map-range_with_len}
use Rattle.std.proofs.lemmas.Simd.{map-map}
use Rattle.lgc_values.specs.Values.{has}
use Rattle.lgc_values.specs.Logic.{Logic, IsLogic, operator_at, value_over}
use Rattle.lgc_clauses.specs.Rules as rules
use Rattle.lgc_clauses.specs.Rules.{Head, operator, quantifier, PlainRule, some_in, holds_over}
use Rattle.lgc_clauses.specs.Exactness.{IsExact}
use Rattle.lgc_syntax.specs.declared.formula.Term.{Term, Free}
use Rattle.lgc_syntax.specs.declared.formula.Formula.{Formula, Op, Quant}
use Rattle.lgc_syntax.specs.declared.formula.Formula.TheVariants.{outs-Atom, outs-Op, outs-Quant}
use Rattle.lgc_syntax.specs.Equality.{same_formula}
use Rattle.lgc_syntax.specs.Fits.{Fits}
use Rattle.lgc_syntax.specs.Variables.{free, has_no_bound}
use Rattle.lgc_syntax.specs.Substitution.{inst}
use Rattle.lgc_syntax.specs.Values.{operation}
use Rattle.lgc_syntax.specs.Structures.{Structure, IsStructure, IsAssignment, elements, element, set_of_values, value_in}
use Rattle.lgc_syntax.proofs.EqualityLaws.{same_formula-Decides}
use Rattle.lgc_syntax.proofs.Induction.{term_induction, formula_induction}
use Rattle.lgc_syntax.proofs.Lists.{map_everywhere}
use Rattle.lgc_syntax.proofs.VariableLaws.{free-Quant}
use Rattle.lgc_syntax.proofs.StructureLaws.{element-Bound, element-Free, element-Apply, value_in-Op, value_in-Quant, instance_value}
use Rattle.lgc_syntax.proofs.SubformulaLaws.{op_fits}
use Rattle.lgc_calculus.proofs.ArgumentLaws.{exact_at_arguments}
use Rattle.lgc_goals.proofs.TruthValues.{HasValues-value_in}
use Rattle.lgc_sequents.specs.Signed.{SignedFormula}
use Rattle.lgc_sequents.specs.Sequents.{sign_in, is_true_at}
use Rattle.lgc_sequents.specs.Steps.{compound_layer, is_compound_of, formulas_below, auxiliary_formulas, term_count, Premise, IsPremise, IsRuleStep}
use Rattle.lgc_sequents.proofs.StepLaws.{compound-Op, compound-Quant, below-Op, below-Quant}
use Rattle.lgc_soundness.specs.Soundness.{HoldsIn}
use Rattle.lgc_soundness.proofs.BodyValues.{exact_at_values}
use Rattle.lgc_soundness.proofs.Eigenvariables.{each_fails, witnesses, assigned, assigned-is, assigned-names, assigned-value}
use Rattle.lgc_soundness.proofs.Premises.{each_clause, is_true_at-alike, true_by_set, premise_true, is_true_at-with_signs}

-- ---- compounds

-- a compound of an operator, with its arguments
operation_of : (op : ℕ) (f : Formula) → is_compound_of (operator op) f ≡ true → (args : List Formula) × (f ≡ Op op args)
unfolding is_compound_of
operation_of op = formula_induction (λ f. is_compound_of (operator op) f ≡ true → (args : List Formula) × (f ≡ Op op args))
    (λ p args is. absurd (true≢false (sym is ∙ ap (compound_layer (operator op)) (outs-Atom p args))))
    (λ o args each is. (args, ap (λ k. Op k args) (eqb-true o op (sym (compound-Op op o args) ∙ is))))
    (λ q body more is. absurd (true≢false (sym is ∙ ap (compound_layer (operator op)) (outs-Quant q body))))

-- a compound of a quantifier, with its body
quantification_of : (q : ℕ) (f : Formula) → is_compound_of (quantifier q) f ≡ true → (body : Formula) × (f ≡ Quant q body)
unfolding is_compound_of
quantification_of q = formula_induction (λ f. is_compound_of (quantifier q) f ≡ true → (body : Formula) × (f ≡ Quant q body))
    (λ p args is. absurd (true≢false (sym is ∙ ap (compound_layer (quantifier q)) (outs-Atom p args))))
    (λ o args each is. absurd (true≢false (sym is ∙ ap (compound_layer (quantifier q)) (outs-Op o args))))
    (λ r body more is. (body, ap (λ k. Quant k body) (eqb-true r q (sym (compound-Quant q r body) ∙ is))))

-- ---- fresh variables

-- the law below, at one item
fresh_step : (x : List ℕ) (f : Formula) (v : ℕ) (item : SignedFormula) (rest : List SignedFormula) (same : Bool) → same_formula f item.formula ≡ same → free x item.formula ≡ false → (has (sign_in rest f) v ≡ true → free x f ≡ false)
    → has (cond same item.sign (sign_in rest f)) v ≡ true → free x f ≡ false
fresh_step x f v item rest true same absent later member = ap (free x) ((same_formula-Decides f item.formula).0 same) ∙ absent
fresh_step x f v item rest false other absent later member = later member

-- a variable that isn't free in a sequent isn't free in a formula whose sign there has a member
fresh_in : (x : List ℕ) (f : Formula) (v : ℕ) (items : List SignedFormula) → All (λ item. free x item.formula ≡ false) items → has (sign_in items f) v ≡ true → free x f ≡ false
fresh_in x f v [] absent member = cc
fresh_in x f v (item ∷ items) absent member =
    fresh_step x f v item items (same_formula f item.formula) refl (All-head (λ (item : SignedFormula). free x item.formula ≡ false) item items absent)
    (fresh_in x f v items (All-tail (λ (item : SignedFormula). free x item.formula ≡ false) item items absent)) member

-- a term for each `all` set, and maybe one more
enough_terms : (q : ℕ) (some : List ℕ) (all : List (List ℕ)) (count : ℕ) → count ≡ term_count (quantifier q) (some ∷ all) → length all ≤ count
enough_terms q [] all count is = let long : count ≡ length all = is in omega arith
enough_terms q (v ∷ some) all count is = let long : count ≡ length all + 1 = is in omega arith

module _ (logic : Logic) (is : IsLogic logic) (M : Structure) (structure : IsStructure logic M) where
  -- the values of formulas under an assignment
  abbrev values : (List ℕ → ℕ) → Formula → ℕ
  values s f = value_in logic M s f []

  -- a premise that holds, and whose terms have no bound variables
  abbrev pub IsUsable : Premise → Type 0
  IsUsable premise = HoldsIn logic M premise.sequent × All (λ t. has_no_bound t ≡ true) premise.terms

  -- the element of a term is one of the structure
  element_below : (s : List ℕ → ℕ) → IsAssignment M s → (t : Term) → element M s t [] < M.size
  element_below s assignment = term_induction (λ t. element M s t [] < M.size)
      (λ i. subst (λ a. a < M.size) (sym (element-Bound M s i [])) structure.nonempty)
      (λ x. subst (λ a. a < M.size) (sym (element-Free M s x [])) (assignment x))
      (λ f args each. subst (λ a. a < M.size) (sym (element-Apply M s f args [])) (structure.functions f (map (λ a. element M s a []) args)))

  -- a sequent in which no eigenvariable is free stays as it is where they get other elements
  fresh_truth : (names : List (List ℕ)) (chosen : List ℕ) (s : List ℕ → ℕ) (items : List SignedFormula) → All (λ x. All (λ item. free x item.formula ≡ false) items) names
      → is_true_at (values (assigned names chosen s)) items ≡ is_true_at (values s) items
  fresh_truth names chosen s items fresh =
      is_true_at-alike (values (assigned names chosen s)) (values s) items (λ i d lt. assigned-value logic M names chosen s (get_or items i d).formula [] (λ k e below. fresh k e below i d lt))

  -- ---- clauses of quantifiers

  module _ (s : List ℕ → ℕ) (assignment : IsAssignment M s) (body : Formula) where
    -- the value of the body at an element
    abbrev at_element : ℕ → ℕ
    at_element a = value_in logic M s body (a ∷ [])

    module _ (names : List (List ℕ)) (chosen : List ℕ) (absent : All (λ x. free x body ≡ false) names) where
      abbrev moved : List ℕ → ℕ
      moved = assigned names chosen s

      abbrev element_of : Term → ℕ
      element_of t = element M moved t []

      -- an instance has the value of the body at the element of its term
      instance_values : (terms : List Term) → AllByRecursion (λ t. has_no_bound t ≡ true) terms → map (values moved) (map (inst body) terms) ≡ map at_element (map element_of terms)
      instance_values [] unbound = refl
      instance_values (t ∷ terms) unbound =
          let here : values moved (inst body t) ≡ at_element (element_of t) = instance_value body t unbound.0 logic M moved [] ∙ assigned-value logic M names chosen s body (element_of t ∷ []) absent in
          let rest = instance_values terms unbound.1 in
          λ i. here i ∷ rest i

      -- a last set that has no value of the body has that of no instance
      last_fails : (some : List ℕ) (terms : List Term) → IsAssignment M moved → list_any (has some) (map at_element (elements M)) ≡ false → some_in (some ∷ []) (map at_element (map element_of terms)) ≡ false
      last_fails some [] is_moved none = refl
      last_fails some (t ∷ terms) is_moved none =
          or_from (has some (at_element (element_of t))) false (each_fails (has some) at_element M.size (element_of t) none (element_below moved is_moved t)) refl

      -- the instances by the eigenvariables and then by further terms have the values of the body at the chosen elements, and then at
      -- those of the terms
      values_at_terms : (terms further : List Term) → terms ≡ map Free names ++ further → length names ≡ length chosen → AllPairs (λ x y. x ≢ y) names → All (λ t. has_no_bound t ≡ true) terms
          → map (values moved) (map (inst body) terms) ≡ map at_element chosen ++ map at_element (map element_of further)
      values_at_terms terms further are long differ unbound =
          let of_names : map element_of (map Free names) ≡ chosen = map-map element_of Free names ∙ map_everywhere (λ x. element_of (Free x)) moved names (λ x. element-Free M moved x []) ∙ assigned-names names chosen s long differ in
          instance_values terms (recursion_from_All (λ t. has_no_bound t ≡ true) terms unbound)
          ∙ ap (map at_element) (ap (map element_of) are ∙ map-append element_of (map Free names) further ∙ ap (λ front. front ++ map element_of further) of_names)
          ∙ map-append at_element chosen (map element_of further)

    -- Where a premise for a clause holds, the conclusion is true, or the clause is true at the values of the body: else the eigenvariables
    -- could have elements at which the premise is false.
    clause_true : (conclusion : List SignedFormula) (q : ℕ) (principal : Formula) (some : List ℕ) (all : List (List ℕ)) (premise : Premise) → principal ≡ Quant q body
        → ((x : List ℕ) → All (λ item. free x item.formula ≡ false) conclusion → free x body ≡ false)
        → IsPremise (quantifier q) principal conclusion (some ∷ all) premise → IsUsable premise
        → (is_true_at (values s) conclusion ≡ true) ⊎ (holds_over (some ∷ all) (map at_element (elements M)) ≡ true)
    clause_true conclusion q principal some all premise compound fresh right usable = ⊎_elim
        (λ (holds : holds_over (some ∷ all) (map at_element (elements M)) ≡ true). inr holds)
        (λ (fails : holds_over (some ∷ all) (map at_element (elements M)) ≡ false).
        let parts = or_parts (list_any (has some) (map at_element (elements M))) (list_any (λ set. list_all (has set) (map at_element (elements M))) all) fails in
        let found = witnesses at_element M.size all parts.1 in
        let eigen = right.eigenvariables in
        let moved' = assigned eigen.names found.chosen s in
        let is_moved : IsAssignment M moved' = assigned-is M eigen.names found.chosen s found.below assignment in
        let absent : All (λ x. free x body ≡ false) eigen.names = All-weaker (λ x. All (λ (item : SignedFormula). free x item.formula ≡ false) conclusion) (λ x. free x body ≡ false) fresh eigen.names eigen.fresh in
        let further = drop (length all) premise.terms in
        let are : premise.terms ≡ map Free eigen.names ++ further = sym (take-append-drop (length all) premise.terms) ∙ ap (λ front. front ++ further) eigen.variables in
        let enough : length all ≤ length premise.terms = enough_terms q some all (length premise.terms) right.terms in
        let count : length eigen.names ≡ length all = sym (length-map eigen.names Free) ∙ sym (ap length eigen.variables) ∙ length-take-le (length all) premise.terms enough in
        let long : length eigen.names ≡ length found.chosen = count ∙ sym found.count in
        let instances : formulas_below principal premise.terms ≡ map (inst body) premise.terms = ap (λ f. formulas_below f premise.terms) compound ∙ below-Quant q body premise.terms in
        let none : is_true_at (values moved') (auxiliary_formulas (quantifier q) (some ∷ all) principal premise.terms) ≡ false =
        is_true_at-with_signs (values moved') (all ++ some ∷ []) (formulas_below principal premise.terms)
        ∙ ap (λ formulas. some_in (all ++ some ∷ []) (map (values moved') formulas)) instances
        ∙ ap (some_in (all ++ some ∷ [])) (values_at_terms eigen.names found.chosen absent premise.terms further are long eigen.differ usable.1)
        ∙ found.outside (some ∷ []) (map at_element (map (element_of eigen.names found.chosen absent) further)) (last_fails eigen.names found.chosen absent some further is_moved parts.0) in
        ⊎_elim
        (λ (yes : is_true_at (values moved') conclusion ≡ true). inl (sym (fresh_truth eigen.names found.chosen s conclusion eigen.fresh) ∙ yes))
        (λ (yes : is_true_at (values moved') (auxiliary_formulas (quantifier q) (some ∷ all) principal premise.terms) ≡ true). absurd (both_ways _ none yes))
        (premise_true (values moved') conclusion (auxiliary_formulas (quantifier q) (some ∷ all) principal premise.terms) premise.sequent right.allowed (usable.0 moved' is_moved)))
        (cases_Bool (holds_over (some ∷ all) (map at_element (elements M))))

    -- the same for any clause of a quantifier: one without sets puts nothing into its premise
    any_clause_true : (conclusion : List SignedFormula) (q : ℕ) (principal : Formula) → principal ≡ Quant q body
        → ((x : List ℕ) → All (λ item. free x item.formula ≡ false) conclusion → free x body ≡ false)
        → (sets : List (List ℕ)) (premise : Premise) → IsPremise (quantifier q) principal conclusion sets premise → IsUsable premise
        → (is_true_at (values s) conclusion ≡ true) ⊎ (holds_over sets (map at_element (elements M)) ≡ true)
    any_clause_true conclusion q principal compound fresh [] premise right usable = ⊎_elim
        (λ (yes : is_true_at (values s) conclusion ≡ true). inl yes)
        (λ (never : is_true_at (values s) [] ≡ true). absurd (true≢false (sym never)))
        (premise_true (values s) conclusion [] premise.sequent right.allowed (usable.0 s assignment))
    any_clause_true conclusion q principal compound fresh (some ∷ all) premise right usable = clause_true conclusion q principal some all premise compound fresh right usable

  -- ---- steps

  -- by the rule of an operator
  operator_step : (op : ℕ) (sign : List ℕ) (clauses : List (List (List ℕ))) (principal : Formula) (conclusion : List SignedFormula) (premises : List Premise) → rules.Fits logic (record { head = operator op; sign = sign; clauses = clauses })
      → IsExact logic (record { head = operator op; sign = sign; clauses = clauses }) → Fits logic principal → IsRuleStep (record { head = operator op; sign = sign; clauses = clauses }) principal conclusion premises
      → All IsUsable premises → HoldsIn logic M conclusion
  operator_step op sign clauses principal conclusion premises rule exact fits step usable s assignment =
      let compound = operation_of op principal step.compound in
      let args : List Formula = compound.0 in
      let row : List ℕ = map (values s) args in
      let width : length row ≡ (operator_at logic op).arity = length-map args (values s) ∙ (op_fits logic op args (subst (Fits logic) compound.1 fits)).1 in
      let below : All (λ v. v < logic.size) row = All-map (λ v. v < logic.size) (values s) args (λ i d lt. HasValues-value_in logic is M s [] structure (get_or args i d)) in
      let value : values s principal ≡ operation logic op row = ap (values s) compound.1 ∙ value_in-Op logic M s op args [] in
      let one : (sets : List (List ℕ)) (premise : Premise) → IsPremise (operator op) principal conclusion sets premise → IsUsable premise → (is_true_at (values s) conclusion ≡ true) ⊎ (some_in sets row ≡ true) =
      λ sets premise right usable. ⊎_elim
      (λ (yes : is_true_at (values s) conclusion ≡ true). inl yes)
      (λ (here : is_true_at (values s) (auxiliary_formulas (operator op) sets principal premise.terms) ≡ true).
      inr (ap (λ formulas. some_in sets (map (values s) formulas)) (sym (ap (λ f. formulas_below f premise.terms) compound.1 ∙ below-Op op args premise.terms))
      ∙ sym (is_true_at-with_signs (values s) sets (formulas_below principal premise.terms)) ∙ here))
      (premise_true (values s) conclusion (auxiliary_formulas (operator op) sets principal premise.terms) premise.sequent right.allowed (usable.0 s assignment)) in
      ⊎_elim
      (λ (yes : is_true_at (values s) conclusion ≡ true). yes)
      (λ (each : list_all (λ sets. some_in sets row) clauses ≡ true).
      true_by_set (values s) conclusion principal sign step.signed
      (ap (has sign) value ∙ exact_at_arguments logic (record { op = op; sign = sign; clauses = clauses }) is.sized rule exact row width below ∙ each))
      (each_clause (IsPremise (operator op) principal conclusion) IsUsable (is_true_at (values s) conclusion) (λ sets. some_in sets row) one clauses premises step.each usable)

  -- by the rule of a quantifier
  quantifier_step : (q : ℕ) (sign : List ℕ) (clauses : List (List (List ℕ))) (principal : Formula) (conclusion : List SignedFormula) (premises : List Premise) → sign ≢ []
      → IsExact logic (record { head = quantifier q; sign = sign; clauses = clauses }) → IsRuleStep (record { head = quantifier q; sign = sign; clauses = clauses }) principal conclusion premises
      → All IsUsable premises → HoldsIn logic M conclusion
  quantifier_step q [] clauses principal conclusion premises some exact step usable s assignment = absurd (some refl)
  quantifier_step q (v ∷ sign) clauses principal conclusion premises some exact step usable s assignment =
      let compound = quantification_of q principal step.compound in
      let body : Formula = compound.0 in
      let at : ℕ → ℕ = λ a. value_in logic M s body (a ∷ []) in
      let taken : List ℕ = map at (elements M) in
      let occurs : has (sign_in conclusion principal) v ≡ true = (and_parts (has (sign_in conclusion principal) v) (list_all (has (sign_in conclusion principal)) sign) step.signed).0 in
      let fresh : (x : List ℕ) → All (λ item. free x item.formula ≡ false) conclusion → free x body ≡ false = λ x absent. sym (ap (free x) compound.1 ∙ free-Quant x q body) ∙ fresh_in x principal v conclusion absent occurs in
      let nonempty : taken ≢ [] = λ none. let no_element : M.size ≡ 0 = sym (length-map-range_with_len at 0 M.size) ∙ ap length none in omega (arith, structure.nonempty) in
      let below : All (λ v. v < logic.size) taken = All-map (λ v. v < logic.size) at (elements M) (λ i d lt. HasValues-value_in logic is M s (get_or (elements M) i d ∷ []) structure body) in
      let value : values s principal ≡ value_over logic q (set_of_values logic taken) = ap (values s) compound.1 ∙ value_in-Quant logic M s q body [] in
      ⊎_elim
      (λ (yes : is_true_at (values s) conclusion ≡ true). yes)
      (λ (each : list_all (λ sets. holds_over sets taken) clauses ≡ true).
      true_by_set (values s) conclusion principal (v ∷ sign) step.signed
      (ap (has (v ∷ sign)) value ∙ sym (exact_at_values logic is q (v ∷ sign) clauses taken exact nonempty below) ∙ each))
      (each_clause (IsPremise (quantifier q) principal conclusion) IsUsable (is_true_at (values s) conclusion) (λ sets. holds_over sets taken)
      (any_clause_true s assignment body conclusion q principal compound.1 fresh) clauses premises step.each usable)

  -- by the rule of either
  step_by_head : (head : Head) (sign : List ℕ) (clauses : List (List (List ℕ))) (principal : Formula) (conclusion : List SignedFormula) (premises : List Premise)
      → rules.Fits logic (record { head = head; sign = sign; clauses = clauses }) → sign ≢ [] → IsExact logic (record { head = head; sign = sign; clauses = clauses }) → Fits logic principal
      → IsRuleStep (record { head = head; sign = sign; clauses = clauses }) principal conclusion premises → All IsUsable premises → HoldsIn logic M conclusion
  step_by_head (operator op) sign clauses principal conclusion premises rule some exact fits step usable = operator_step op sign clauses principal conclusion premises rule exact fits step usable
  step_by_head (quantifier q) sign clauses principal conclusion premises rule some exact fits step usable = quantifier_step q sign clauses principal conclusion premises some exact step usable

  -- where the premises of a step by an exact rule hold, the conclusion does
  pub rule_step_holds : (rule : PlainRule) (principal : Formula) (conclusion : List SignedFormula) (premises : List Premise) → rules.Fits logic rule → rule.sign ≢ [] → IsExact logic rule → Fits logic principal
      → IsRuleStep rule principal conclusion premises → All IsUsable premises → HoldsIn logic M conclusion
  rule_step_holds rule principal conclusion premises formed some exact fits step usable = step_by_head rule.head rule.sign rule.clauses principal conclusion premises formed some exact fits step usable
