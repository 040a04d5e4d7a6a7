-- Each formula has a truth value of the logic, under every valuation and in every structure.
use Rattle.std.proofs.Common.{ℕ, zero, suc, ◌<◌, ◌-◌, List, [], ◌∷◌, map, get_or, slice_index, sym, subst, arith}
use Rattle.std.specs.List.{All}
use Rattle.std.proofs.lemmas.List.Elements.{All-nil, All-head, All-tail}
use Rattle.std.proofs.lemmas.Option.{unwrap_or-slice_get}
use Rattle.lgc_values.specs.declared.matrix.Operator.{Operator}
use Rattle.lgc_values.specs.declared.matrix.Quantifier.{Quantifier}
use Rattle.lgc_values.specs.Values.{mask_of}
use Rattle.lgc_values.specs.Logic.{Logic, IsLogic, operator_at, quantifier_at, value_over}
use Rattle.lgc_syntax.specs.declared.formula.Formula.{Formula, Atom}
use Rattle.lgc_syntax.specs.Values.{operation, row_index, value, IsValuation}
use Rattle.lgc_syntax.specs.Structures.{Structure, IsStructure, elements, element, set_of_values, value_in}
use Rattle.lgc_syntax.proofs.Induction.{formula_induction}
use Rattle.lgc_syntax.proofs.ValueLaws.{value-Atom, value-Op, value-Quant}
use Rattle.lgc_syntax.proofs.StructureLaws.{value_in-Atom, value_in-Op, value_in-Quant}
use Rattle.lgc_sequents.specs.Sequents.{HasValues}

-- what is true of each item and of the default is true of what is read
get_or-All : {X : Type 0} (P : X → Type 0) (xs : List X) (i : ℕ) (d : X) → P d → All P xs → P (get_or xs i d)
get_or-All P [] i d default all = default
get_or-All P (x ∷ xs) zero d default all = All-head P x xs all
get_or-All P (x ∷ xs) (suc i) d default all = get_or-All P xs i d default (All-tail P x xs all)

module _ (logic : Logic) (is : IsLogic logic) where
  some : 0 < logic.size
  some = omega (arith, is.sized.low)

  entry_below : (table : List ℕ) (row : ℕ) → All (λ v. v < logic.size) table → slice_index table row < logic.size
  entry_below table row entries = get_or-All (λ v. v < logic.size) table row 0 some entries

  operation-below : (o : ℕ) (arguments : List ℕ) → operation logic o arguments < logic.size
  operation-below o arguments =
      let none : Operator = record { name = []; arity = 0; table = [] } in
      let entries : All (λ v. v < logic.size) (operator_at logic o).table =
      subst (λ (operator : Operator). All (λ v. v < logic.size) operator.table) (sym (unwrap_or-slice_get logic.operators o none))
      (get_or-All (λ (operator : Operator). All (λ v. v < logic.size) operator.table) logic.operators o none (All-nil (λ v. v < logic.size)) (λ i d lt. (is.operators i d lt).entries)) in
      entry_below (operator_at logic o).table (row_index logic.size arguments) entries

  value_over-below : (q : ℕ) (set : List ℕ) → value_over logic q set < logic.size
  value_over-below q set =
      let none : Quantifier = record { name = []; table = [] } in
      let entries : All (λ v. v < logic.size) (quantifier_at logic q).table =
      subst (λ (quantifier : Quantifier). All (λ v. v < logic.size) quantifier.table) (sym (unwrap_or-slice_get logic.quantifiers q none))
      (get_or-All (λ (quantifier : Quantifier). All (λ v. v < logic.size) quantifier.table) logic.quantifiers q none (All-nil (λ v. v < logic.size)) (λ i d lt. (is.quantifiers i d lt).entries)) in
      entry_below (quantifier_at logic q).table (mask_of set - 1) entries

  -- under a valuation
  pub HasValues-value : (v : Formula → ℕ) → IsValuation logic v → HasValues logic.size (value logic v)
  HasValues-value v valuation = formula_induction (λ f. value logic v f < logic.size)
      (λ p args. subst (λ x. x < logic.size) (sym (value-Atom logic v p args)) (valuation (Atom p args)))
      (λ o args each. subst (λ x. x < logic.size) (sym (value-Op logic v o args)) (operation-below o (map (value logic v) args)))
      (λ q body below. subst (λ x. x < logic.size) (sym (value-Quant logic v q body)) some)

  -- in a structure, under every assignment, with elements for the quantifiers around
  pub HasValues-value_in : (M : Structure) (s : List ℕ → ℕ) (e : List ℕ) → IsStructure logic M → HasValues logic.size (λ f. value_in logic M s f e)
  HasValues-value_in M s e structure = λ f. formula_induction (λ f. (e : List ℕ) → value_in logic M s f e < logic.size)
      (λ p args e. subst (λ x. x < logic.size) (sym (value_in-Atom logic M s p args e)) (structure.predicates p (map (λ a. element M s a e) args)))
      (λ o args each e. subst (λ x. x < logic.size) (sym (value_in-Op logic M s o args e)) (operation-below o (map (λ a. value_in logic M s a e) args)))
      (λ q body below e. subst (λ x. x < logic.size) (sym (value_in-Quant logic M s q body e)) (value_over-below q (set_of_values logic (map (λ x. value_in logic M s body (x ∷ e)) (elements M)))))
      f e
