-- The values of numbered formulas go by the nodes, and what goes by the nodes are the values.
use Rattle.std.proofs.Common.{ℕ, zero, suc, ◌≡◌, ◌<◌, ◌≤◌, List, [], Some, length, map, get_or, slice_get, sym, ap, ◌∙◌, arith}
use Rattle.std.proofs.lemmas.Simd.{map-map}
use Rattle.std.proofs.lemmas.Option.{slice_get-get_or}
use Rattle.lgc_values.specs.Logic.{Logic}
use Rattle.lgc_syntax.specs.declared.formula.Formula.{Formula}
use Rattle.lgc_syntax.specs.Values.{operation, value}
use Rattle.lgc_syntax.proofs.ValueLaws.{value-Atom, value-Op}
use Rattle.lgc_numbering.specs.declared.node.Node.{Node}
use Rattle.lgc_numbering.specs.declared.node.Node.TheVariants as node
use Rattle.lgc_numbering.specs.Numbering.{formula_at, AreNodesOf}
use Rattle.lgc_numbering.proofs.Lists.{map-alike}
use Rattle.lgc_numbering.proofs.NumberingLaws.{formula_at-node}

module _ (logic : Logic) (v : Formula → ℕ) (formulas : List Formula) (nodes : List Node) (are : AreNodesOf formulas nodes) where
  -- an atom has the valuation's value
  pub value_of_atom : (k : ℕ) (atom : Formula) → slice_get nodes k ≡ Some (node.Atom atom) → value logic v (formula_at formulas k) ≡ v atom
  value_of_atom k atom at =
      let is = are.over k (node.Atom atom) at in
      ap (value logic v) (formula_at-node formulas nodes k (node.Atom atom) are at ∙ is.2) ∙ value-Atom logic v is.0 is.1 ∙ ap v (sym is.2)

  -- a compound has the operator's value at the values of the arguments
  pub value_of_compound : (k op : ℕ) (args : List ℕ) → slice_get nodes k ≡ Some (node.Compound op args) → value logic v (formula_at formulas k) ≡ operation logic op (map (λ a. value logic v (formula_at formulas a)) args)
  value_of_compound k op args at =
      ap (value logic v) (formula_at-node formulas nodes k (node.Compound op args) are at)
      ∙ value-Op logic v op (map (formula_at formulas) args)
      ∙ ap (operation logic op) (map-map (value logic v) (formula_at formulas) args)

  module _ (val : ℕ → ℕ) (atoms : (k : ℕ) (atom : Formula) → slice_get nodes k ≡ Some (node.Atom atom) → val k ≡ v atom)
      (compounds : (k op : ℕ) (args : List ℕ) → slice_get nodes k ≡ Some (node.Compound op args) → val k ≡ operation logic op (map val args)) where
    value_of_node : (k : ℕ) (a : Node) → slice_get nodes k ≡ Some a → ((j : ℕ) → j < k → val j ≡ value logic v (formula_at formulas j)) → val k ≡ value logic v (formula_at formulas k)
    value_of_node k (node.Atom atom) at below = atoms k atom at ∙ sym (value_of_atom k atom at)
    value_of_node k (node.Compound op args) at below =
        compounds k op args at
        ∙ ap (operation logic op) (map-alike val (λ a. value logic v (formula_at formulas a)) args (λ i d lt. below (get_or args i d) (are.over k (node.Compound op args) at i d lt)))
        ∙ sym (value_of_compound k op args at)

    values_below : (n : ℕ) → n ≤ length nodes → (j : ℕ) → j < n → val j ≡ value logic v (formula_at formulas j)
    values_below zero le j lt = absurd (omega (arith, lt))
    values_below (suc n) le j lt =
        let within : j < length nodes = omega (arith, lt, le) in
        let d = node.Compound 0 [] in
        value_of_node j (get_or nodes j d) (slice_get-get_or nodes j d within) (λ i before. values_below n (omega (arith, le)) i (omega (arith, before, lt)))

    -- what goes by the atoms' values and by the operators are the values of all formulas
    pub values_are : (k : ℕ) → k < length nodes → val k ≡ value logic v (formula_at formulas k)
    values_are k lt = values_below (length nodes) (omega arith) k lt
