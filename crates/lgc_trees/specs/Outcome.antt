-- What is answered to a goal: a derivation whose conclusion it is, or a valuation under which it is false.
use Rattle.std.specs.Prelude.{◌≡◌, ◌≤◌, ℕ, List, map}
use Rattle.lgc_values.specs.Logic.{Logic}
use Rattle.lgc_clauses.specs.Rules.{OperatorRule, of_operator}
use Rattle.lgc_sequents.specs.Signed.{SignedFormula}
use Rattle.lgc_derivations.specs.Derivations.{Tree, conclusion_of, formulas_of, most_steps, IsRight}
use Rattle.lgc_sequents.specs.Everywhere.{IsTrueEverywhere, IsCounterexample}
use Rattle.lgc_decision.specs.Decided.{AreSubformulasOf}
use Rattle.lgc_proofs.specs.Found.{operators}
use Rattle.lgc_trees.specs.declared.outcome.Outcome.{Outcome}
use Rattle.lgc_trees.specs.declared.outcome.Outcome.TheVariants.{Derived, Refuted}

-- A derivation of a goal by some rules: the goal is its conclusion, each step is right, the formulas are subformulas of the goal's, and no way
-- down has more steps than the goal has operators.
pub record IsDerivationOf (logic : Logic) (rules : List OperatorRule) (goal : List SignedFormula) (d : Tree) : Type 0 where
  pub concludes : conclusion_of d ≡ goal
  pub right : IsRight logic.size (map of_operator rules) d
  pub parts : AreSubformulasOf goal (formulas_of d)
  pub short : most_steps d ≤ operators goal

-- What is answered to a goal is right: a derivation, where it is true under every valuation, or a valuation under which it is false.
abbrev pub IsOutcome : {size : ℕ} → Logic → List OperatorRule → List SignedFormula → Outcome size → Type 0
IsOutcome logic rules goal (Derived d) = IsDerivationOf logic rules goal d × IsTrueEverywhere logic goal
IsOutcome logic rules goal (Refuted entries) = IsCounterexample logic goal entries
