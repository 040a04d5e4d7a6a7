-- When a derivation is right for a list of rules.
use Rattle.std.specs.Prelude.{◌≡◌, ℕ, ◌+◌, true, List, [], ◌∷◌, ◌++◌, map, Some}
use Rattle.std.specs.List.{flat_map}
use Rattle.lgc_clauses.specs.Rules.{PlainRule}
use Rattle.lgc_syntax.specs.declared.formula.Formula.{Formula}
use Rattle.lgc_syntax.specs.Sizes.{greatest}
use Rattle.lgc_sequents.specs.Signed.{SignedFormula}
use Rattle.lgc_sequents.specs.Sequents.{is_axiom}
use Rattle.lgc_sequents.specs.Lines.{at_position}
use Rattle.lgc_sequents.specs.Steps.{without_terms, IsRuleStep}
use Rattle.lgc_derivations.specs.declared.derivation.Derivation.{Derivation, Axiom, Step, fold-Derivation}
use Rattle.lgc_derivations.specs.declared.derivation.Derivation.TheOpen.{Derivation-F}
use Rattle.lgc_derivations.specs.declared.derivation.Derivation.TheOpen as derivation

-- a derivation of a sequent, given by its items
abbrev pub Tree : Type 0
Tree = Derivation (List SignedFormula)

abbrev pub conclusion_layer : Derivation-F (List SignedFormula) (List SignedFormula) → List SignedFormula
conclusion_layer (derivation.Axiom conclusion) = conclusion
conclusion_layer (derivation.Step conclusion rule principal premises) = conclusion

unfoldable pub conclusion_of : Tree → List SignedFormula
conclusion_of = fold-Derivation (List SignedFormula) (List SignedFormula) conclusion_layer

-- the formulas in the conclusions of a derivation
abbrev pub formulas_layer : Derivation-F (List SignedFormula) (List Formula) → List Formula
formulas_layer (derivation.Axiom conclusion) = map (λ item. item.formula) conclusion
formulas_layer (derivation.Step conclusion rule principal premises) = map (λ item. item.formula) conclusion ++ flat_map (λ formulas. formulas) premises

unfoldable pub formulas_of : Tree → List Formula
formulas_of = fold-Derivation (List SignedFormula) (List Formula) formulas_layer

-- the greatest number of steps on a way down
abbrev pub steps_layer : Derivation-F (List SignedFormula) ℕ → ℕ
steps_layer (derivation.Axiom conclusion) = 0
steps_layer (derivation.Step conclusion rule principal premises) = 1 + greatest premises

unfoldable pub most_steps : Tree → ℕ
most_steps = fold-Derivation (List SignedFormula) ℕ steps_layer

-- In a logic of n truth values a derivation is right where each conclusion is an axiom, or follows from the conclusions above it by the rule
-- at a position.
mutual
  pub data IsRight (n : ℕ) (rules : List PlainRule) : Tree → Type 0 where
    right_axiom : (conclusion : List SignedFormula) → is_axiom n conclusion ≡ true → IsRight n rules (Axiom conclusion)
    right_step : (conclusion : List SignedFormula) (position : ℕ) (principal : Formula) (premises : List Tree) (rule : PlainRule) → at_position rules position ≡ Some rule → IsRuleStep rule principal conclusion (map (λ d. without_terms (conclusion_of d)) premises) → AreRight n rules premises → IsRight n rules (Step conclusion position principal premises)

  pub data AreRight (n : ℕ) (rules : List PlainRule) : List Tree → Type 0 where
    none_right : AreRight n rules []
    more_right : (d : Tree) (ds : List Tree) → IsRight n rules d → AreRight n rules ds → AreRight n rules (d ∷ ds)
