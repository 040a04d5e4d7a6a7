-- The outermost symbols of formulas, and the formulas below them.
use Rattle.std.proofs.Common.{◌≡◌, ℕ, false, List, ap}
use Rattle.lgc_clauses.specs.Rules.{operator, quantifier}
use Rattle.lgc_syntax.specs.declared.formula.Term.{Term}
use Rattle.lgc_syntax.specs.declared.formula.Formula.{Formula, Atom, Op, Quant}
use Rattle.lgc_syntax.specs.declared.formula.Formula.TheVariants.{outs-Atom, outs-Op, outs-Quant}
use Rattle.lgc_sequents.specs.Steps.{compound_layer, is_compound_of}
use Rattle.lgc_sequents.proofs.StepLaws.{compound-Op, compound-Quant, below-Op, below-Quant}

pub operator-Atom : (op : ℕ) (p : List ℕ) (args : List Term) → is_compound_of (operator op) (Atom p args) ≡ false
unfolding is_compound_of
operator-Atom op p args = ap (compound_layer (operator op)) (outs-Atom p args)

pub operator-Quant : (op q : ℕ) (body : Formula) → is_compound_of (operator op) (Quant q body) ≡ false
unfolding is_compound_of
operator-Quant op q body = ap (compound_layer (operator op)) (outs-Quant q body)

pub quantifier-Atom : (q : ℕ) (p : List ℕ) (args : List Term) → is_compound_of (quantifier q) (Atom p args) ≡ false
unfolding is_compound_of
quantifier-Atom q p args = ap (compound_layer (quantifier q)) (outs-Atom p args)

pub quantifier-Op : (q o : ℕ) (args : List Formula) → is_compound_of (quantifier q) (Op o args) ≡ false
unfolding is_compound_of
quantifier-Op q o args = ap (compound_layer (quantifier q)) (outs-Op o args)

pub ruleset compound_rules = (compound-Op, compound-Quant, below-Op, below-Quant, operator-Atom, operator-Quant, quantifier-Atom, quantifier-Op)
