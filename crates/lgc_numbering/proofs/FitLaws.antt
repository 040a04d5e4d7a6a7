-- The formulas of a logic, by their nodes.
use Rattle.std.proofs.Common.{ℕ, zero, suc, ◌≡◌, ◌<◌, ◌&&◌, true, false, List, [], ◌∷◌, Some, length, map, get_or, slice_get, refl, sym, ap, ◌∙◌, arith}
use Rattle.std.specs.List.{All, list_all}
use Rattle.std.proofs.lemmas.Bool.{and_parts}
use Rattle.std.proofs.lemmas.List.{length-map}
use Rattle.std.proofs.lemmas.List.Elements.{All-nil, All-cons}
use Rattle.lgc_values.specs.Logic.{Logic, operator_at}
use Rattle.lgc_syntax.specs.declared.formula.Formula.{Formula, Op}
use Rattle.lgc_syntax.specs.Fits.{Fits, fits_within}
use Rattle.lgc_syntax.proofs.SubformulaLaws.{op_fits}
use Rattle.lgc_numbering.specs.declared.node.Node.{Node}
use Rattle.lgc_numbering.specs.declared.node.Node.TheVariants as node
use Rattle.lgc_numbering.specs.Numbering.{formula_at, AreNodesOf}
use Rattle.lgc_numbering.proofs.NumberingLaws.{formula_at-node}

-- a compound of the logic has an operator of the logic with as many arguments as its arity, and the arguments are of the logic
pub record FitsAt (logic : Logic) (formulas : List Formula) (op : ℕ) (args : List ℕ) : Type 0 where
  pub operator : op < length logic.operators
  pub arity : length args ≡ (operator_at logic op).arity
  pub arguments : All (λ a. Fits logic (formula_at formulas a)) args

each_fits : (logic : Logic) (formulas : List Formula) (args : List ℕ) → list_all (λ f. fits_within logic f 0) (map (formula_at formulas) args) ≡ true → All (λ a. Fits logic (formula_at formulas a)) args
each_fits logic formulas [] all = All-nil (λ a. Fits logic (formula_at formulas a))
each_fits logic formulas (a ∷ args) all =
    let parts = and_parts (fits_within logic (formula_at formulas a) 0) (list_all (λ f. fits_within logic f 0) (map (formula_at formulas) args)) all in
    All-cons (λ a. Fits logic (formula_at formulas a)) a args parts.0 (each_fits logic formulas args parts.1)

pub fits_at : (logic : Logic) (formulas : List Formula) (nodes : List Node) (k op : ℕ) (args : List ℕ) → AreNodesOf formulas nodes → slice_get nodes k ≡ Some (node.Compound op args) → Fits logic (formula_at formulas k) → FitsAt logic formulas op args
fits_at logic formulas nodes k op args are at fits =
    let gs = map (formula_at formulas) args in
    let parts = op_fits logic op gs (ap (λ f. fits_within logic f 0) (sym (formula_at-node formulas nodes k (node.Compound op args) are at)) ∙ fits) in
    record {
      operator = parts.0;
      arity = sym (length-map args (formula_at formulas)) ∙ parts.1;
      arguments = each_fits logic formulas args parts.2;
    }
