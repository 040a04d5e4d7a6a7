-- The value of a formula in a structure, the law of substitution, and that variables that aren't free don't matter.
use Rattle.std.proofs.Common.{ℕ, ◌≡◌, ◌≢◌, ◌+◌, ◌-◌, Bool, true, false, cond, List, [], ◌∷◌, ◌++◌, length, map, slice_index, bytes_eq, nat_lt, nat_eq, refl, sym, ◌∙◌, ap, add-one, arith}
use Rattle.std.specs.Bool.{OnFalse}
use Rattle.std.proofs.lemmas.Bool.{ltb-true, ltb-false, eqb-true, eqb-false, both_ways, OnFalse_from}
use Rattle.std.proofs.lemmas.List.{get_or_append_left}
use Rattle.std.proofs.lemmas.Simd.{map-map}
use Rattle.std.proofs.lemmas.Slice.Eq.{bytes_eq-Decides}
use Rattle.std.proofs.Math.Seq.{get_or-append_seam, get_or-append_right}
use Rattle.lgc_values.specs.Logic.{Logic, value_over}
use Rattle.lgc_syntax.specs.declared.formula.Term.{Term, Bound, Free, Apply}
use Rattle.lgc_syntax.specs.declared.formula.Formula.{Formula, Atom, Op, Quant}
use Rattle.lgc_syntax.specs.Variables.{occurs, free, has_no_bound}
use Rattle.lgc_syntax.specs.Substitution.{put_for_bound, put_in_term, put_in, inst}
use Rattle.lgc_syntax.specs.Values.{operation}
use Rattle.lgc_syntax.specs.Structures.{Structure, elements, element, element_layer, set_of_values, value_in, value_in_layer, HasValueOfBody, IsIndependent}
use Rattle.lgc_syntax.proofs.Folds.{fold-Bound, fold-Free, fold-Apply, fold-Atom, fold-Op, fold-Quant}
use Rattle.lgc_syntax.proofs.Induction.{term_induction, formula_induction}
use Rattle.lgc_syntax.proofs.Lists.{map_each, map_everywhere, each_passing, each_failing, each_from, each_always}
use Rattle.lgc_syntax.proofs.VariableLaws.{has_no_bound-Bound, has_no_bound-Apply, occurs-Free, occurs-Apply, free-Atom, free-Op, free-Quant}
use Rattle.lgc_syntax.proofs.SubstitutionLaws.{put_in_term-Bound, put_in_term-Free, put_in_term-Apply, put_in-Atom, put_in-Op, put_in-Quant}

module _ (M : Structure) (s : List ℕ → ℕ) where
  pub element-Bound : (i : ℕ) (e : List ℕ) → element M s (Bound i) e ≡ slice_index e i
  unfolding element
  element-Bound i e = ap (λ g. g e) (fold-Bound (List ℕ → ℕ) (element_layer M s) i)

  pub element-Free : (x e : List ℕ) → element M s (Free x) e ≡ s x
  unfolding element
  element-Free x e = ap (λ g. g e) (fold-Free (List ℕ → ℕ) (element_layer M s) x)

  pub element-Apply : (f : List ℕ) (args : List Term) (e : List ℕ) → element M s (Apply f args) e ≡ M.function f (map (λ a. element M s a e) args)
  unfolding element
  element-Apply f args e = ap (λ g. g e) (fold-Apply (List ℕ → ℕ) (element_layer M s) f args) ∙ ap (M.function f) (map-map (λ g. g e) (element M s) args)

module _ (logic : Logic) (M : Structure) (s : List ℕ → ℕ) where
  pub value_in-Atom : (p : List ℕ) (args : List Term) (e : List ℕ) → value_in logic M s (Atom p args) e ≡ M.predicate p (map (λ a. element M s a e) args)
  unfolding value_in
  value_in-Atom p args e = ap (λ g. g e) (fold-Atom (List ℕ → ℕ) (value_in_layer logic M s) p args)

  pub value_in-Op : (o : ℕ) (args : List Formula) (e : List ℕ) → value_in logic M s (Op o args) e ≡ operation logic o (map (λ a. value_in logic M s a e) args)
  unfolding value_in
  value_in-Op o args e = ap (λ g. g e) (fold-Op (List ℕ → ℕ) (value_in_layer logic M s) o args) ∙ ap (operation logic o) (map-map (λ g. g e) (value_in logic M s) args)

  pub value_in-Quant : (q : ℕ) (body : Formula) (e : List ℕ) → value_in logic M s (Quant q body) e ≡ value_over logic q (set_of_values logic (map (λ x. value_in logic M s body (x ∷ e)) (elements M)))
  unfolding value_in
  value_in-Quant q body e = ap (λ g. g e) (fold-Quant (List ℕ → ℕ) (value_in_layer logic M s) q body)

-- ---- substitution

-- the element after one more
past_one : (x : ℕ) (xs : List ℕ) (i j : ℕ) → i ≡ j + 1 → slice_index xs j ≡ slice_index (x ∷ xs) i
past_one x xs i j next = rw (next, add-one) refl

module _ (M : Structure) (s : List ℕ → ℕ) where
  -- a term without bound variables has one element, whatever quantifiers stand around
  element_anywhere : (t : Term) → has_no_bound t ≡ true → (e e' : List ℕ) → element M s t e ≡ element M s t e'
  element_anywhere =
      term_induction (λ t. has_no_bound t ≡ true → (e e' : List ℕ) → element M s t e ≡ element M s t e')
      (λ i unbound e e'. let bound = has_no_bound-Bound i in cc)
      (λ x unbound e e'. element-Free M s x e ∙ sym (element-Free M s x e'))
      (λ f args each unbound e e'.
      element-Apply M s f args e
      ∙ ap (M.function f)
      (map_each _ _ args (each_from _ _ args (λ a anywhere. anywhere e e') (each_passing has_no_bound _ args each (sym (has_no_bound-Apply f args) ∙ unbound))))
      ∙ sym (element-Apply M s f args e'))

  module _ (t : Term) (unbound : has_no_bound t ≡ true) where
    -- `inner` has the elements of the quantifiers inside, `outer` those of the quantifiers around
    element_bound : (inner outer : List ℕ) (i : ℕ) (less : Bool) → nat_lt i (length inner) ≡ less → (same : Bool) → nat_eq i (length inner) ≡ same
        → element M s (cond less (Bound i) (cond same t (Bound (i - 1)))) (inner ++ outer) ≡ slice_index (inner ++ element M s t outer ∷ outer) i
    element_bound inner outer i true below same at =
        let lt = ltb-true i (length inner) below in
        element-Bound M s i (inner ++ outer) ∙ get_or_append_left inner outer 0 i lt ∙ sym (get_or_append_left inner (element M s t outer ∷ outer) 0 i lt)
    element_bound inner outer i false below true at =
        element_anywhere t unbound (inner ++ outer) outer
        ∙ sym (get_or-append_seam inner (element M s t outer) outer 0)
        ∙ ap (slice_index (inner ++ element M s t outer ∷ outer)) (sym (eqb-true i (length inner) at))
    element_bound inner outer i false below false at =
        let le = ltb-false i (length inner) below in
        let other = eqb-false i (length inner) at in
        element-Bound M s (i - 1) (inner ++ outer)
        ∙ get_or-append_right inner outer (i - 1) 0 (omega arith)
        ∙ past_one (element M s t outer) outer (i - length inner) (i - 1 - length inner) (omega arith)
        ∙ sym (get_or-append_right inner (element M s t outer ∷ outer) i 0 le)

    element-put_in_term : (a : Term) (inner outer : List ℕ) → element M s (put_in_term t a (length inner)) (inner ++ outer) ≡ element M s a (inner ++ element M s t outer ∷ outer)
    unfolding put_for_bound
    element-put_in_term =
        term_induction (λ a. (inner outer : List ℕ) → element M s (put_in_term t a (length inner)) (inner ++ outer) ≡ element M s a (inner ++ element M s t outer ∷ outer))
        (λ i inner outer.
        ap (λ a. element M s a (inner ++ outer)) (put_in_term-Bound t i (length inner))
        ∙ element_bound inner outer i _ refl _ refl
        ∙ sym (element-Bound M s i _))
        (λ x inner outer.
        ap (λ a. element M s a (inner ++ outer)) (put_in_term-Free t x (length inner))
        ∙ element-Free M s x _
        ∙ sym (element-Free M s x _))
        (λ f args each inner outer.
        ap (λ a. element M s a (inner ++ outer)) (put_in_term-Apply t f args (length inner))
        ∙ element-Apply M s f _ _
        ∙ ap (M.function f) (map-map _ _ args ∙ map_each _ _ args (each_from _ _ args (λ a same. same inner outer) each))
        ∙ sym (element-Apply M s f args _))

    value_in-put_in : (logic : Logic) (a : Formula) (inner outer : List ℕ) → value_in logic M s (put_in t a (length inner)) (inner ++ outer) ≡ value_in logic M s a (inner ++ element M s t outer ∷ outer)
    value_in-put_in logic =
        formula_induction (λ a. (inner outer : List ℕ) → value_in logic M s (put_in t a (length inner)) (inner ++ outer) ≡ value_in logic M s a (inner ++ element M s t outer ∷ outer))
        (λ p args inner outer.
        ap (λ a. value_in logic M s a (inner ++ outer)) (put_in-Atom t p args (length inner))
        ∙ value_in-Atom logic M s p _ _
        ∙ ap (M.predicate p) (map-map _ _ args ∙ map_everywhere _ _ args (λ a. element-put_in_term a inner outer))
        ∙ sym (value_in-Atom logic M s p args _))
        (λ o args each inner outer.
        ap (λ a. value_in logic M s a (inner ++ outer)) (put_in-Op t o args (length inner))
        ∙ value_in-Op logic M s o _ _
        ∙ ap (operation logic o) (map-map _ _ args ∙ map_each _ _ args (each_from _ _ args (λ a same. same inner outer) each))
        ∙ sym (value_in-Op logic M s o args _))
        (λ q body same inner outer.
        ap (λ a. value_in logic M s a (inner ++ outer)) (put_in-Quant t q body (length inner))
        ∙ value_in-Quant logic M s q _ _
        ∙ ap (λ values. value_over logic q (set_of_values logic values)) (map_everywhere _ _ (elements M) (λ x.
        let deeper : length inner + 1 ≡ length (x ∷ inner) = omega arith in
        ap (λ k. value_in logic M s (put_in t body k) (x ∷ inner ++ outer)) deeper ∙ same (x ∷ inner) outer))
        ∙ sym (value_in-Quant logic M s q body _))

-- the instance of a body has the value that the body has at the term's element
pub instance_value : (body : Formula) (t : Term) → has_no_bound t ≡ true → HasValueOfBody body t (inst body t)
instance_value body t unbound logic M s e = value_in-put_in M s t unbound logic body [] e

-- ---- variables that don't matter

other_name : (x y : List ℕ) → bytes_eq x y ≡ false → y ≢ x
other_name x y apart same = both_ways (bytes_eq x y) apart ((bytes_eq-Decides x y).1 (sym same))

module _ (M : Structure) (x : List ℕ) (s s' : List ℕ → ℕ) (alike : (y : List ℕ) → y ≢ x → s y ≡ s' y) where
  element_other : (t : Term) → occurs x t ≡ false → (e : List ℕ) → element M s t e ≡ element M s' t e
  element_other =
      term_induction (λ t. occurs x t ≡ false → (e : List ℕ) → element M s t e ≡ element M s' t e)
      (λ i absent e. element-Bound M s i e ∙ sym (element-Bound M s' i e))
      (λ y absent e. element-Free M s y e ∙ alike y (other_name x y (sym (occurs-Free x y) ∙ absent)) ∙ sym (element-Free M s' y e))
      (λ f args each absent e.
      element-Apply M s f args e
      ∙ ap (M.function f)
      (map_each _ _ args (each_from _ _ args (λ a same. same e) (each_failing (occurs x) _ args each (sym (occurs-Apply x f args) ∙ absent))))
      ∙ sym (element-Apply M s' f args e))

  value_in_other : (logic : Logic) (f : Formula) → free x f ≡ false → (e : List ℕ) → value_in logic M s f e ≡ value_in logic M s' f e
  value_in_other logic =
      formula_induction (λ f. free x f ≡ false → (e : List ℕ) → value_in logic M s f e ≡ value_in logic M s' f e)
      (λ p args absent e.
      value_in-Atom logic M s p args e
      ∙ ap (M.predicate p)
      (map_each _ _ args (each_failing (occurs x) _ args (each_always _ args (λ a absent. element_other a absent e)) (sym (free-Atom x p args) ∙ absent)))
      ∙ sym (value_in-Atom logic M s' p args e))
      (λ o args each absent e.
      value_in-Op logic M s o args e
      ∙ ap (operation logic o)
      (map_each _ _ args (each_from _ _ args (λ a same. same e) (each_failing (free x) _ args each (sym (free-Op x o args) ∙ absent))))
      ∙ sym (value_in-Op logic M s' o args e))
      (λ q body same absent e.
      value_in-Quant logic M s q body e
      ∙ ap (λ values. value_over logic q (set_of_values logic values)) (map_everywhere _ _ (elements M) (λ y. same (sym (free-Quant x q body) ∙ absent) (y ∷ e)))
      ∙ sym (value_in-Quant logic M s' q body e))

pub independent_law : (x : List ℕ) (f : Formula) → free x f ≡ false → IsIndependent x f
independent_law x f absent logic M s s' e alike = value_in_other M x s s' alike logic f absent e

pub independent_where_not_free : (result : Bool) (x : List ℕ) (f : Formula) → result ≡ free x f → OnFalse result (IsIndependent x f)
independent_where_not_free result x f is = OnFalse_from result (IsIndependent x f) (λ absent. independent_law x f (sym is ∙ absent))
