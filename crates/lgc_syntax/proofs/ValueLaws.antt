-- The value of each kind of formula under a valuation.
use Rattle.std.proofs.Common.{ℕ, ◌≡◌, List, map}
use Rattle.lgc_values.specs.Logic.{Logic}
use Rattle.lgc_syntax.specs.declared.formula.Term.{Term}
use Rattle.lgc_syntax.specs.declared.formula.Formula.{Formula, Atom, Op, Quant}
use Rattle.lgc_syntax.specs.Values.{operation, value, value_layer}
use Rattle.lgc_syntax.proofs.Folds.{fold-Atom, fold-Op, fold-Quant}

module _ (logic : Logic) (v : Formula → ℕ) where
  pub value-Atom : (p : List ℕ) (args : List Term) → value logic v (Atom p args) ≡ v (Atom p args)
  unfolding value
  value-Atom p args = fold-Atom ℕ (value_layer logic v) p args

  pub value-Op : (o : ℕ) (args : List Formula) → value logic v (Op o args) ≡ operation logic o (map (value logic v) args)
  unfolding value
  value-Op o args = fold-Op ℕ (value_layer logic v) o args

  pub value-Quant : (q : ℕ) (body : Formula) → value logic v (Quant q body) ≡ 0
  unfolding value
  value-Quant q body = fold-Quant ℕ (value_layer logic v) q body

pub ruleset value_rules = (value-Atom, value-Op, value-Quant)
