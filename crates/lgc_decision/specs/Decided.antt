-- What is decided of a goal: lemmas of which it includes one, or a valuation under which it is false.
use Rattle.std.specs.Prelude.{◌≡◌, ℕ, true, List, [], All, Any, slice_get, Some}
use Rattle.lgc_values.specs.Logic.{Logic}
use Rattle.lgc_clauses.specs.Rules.{OperatorRule}
use Rattle.lgc_syntax.specs.declared.formula.Formula.{Formula}
use Rattle.lgc_syntax.specs.Subformulas.{IsSubformula}
use Rattle.lgc_sequents.specs.Signed.{SignedFormula}
use Rattle.lgc_sequents.specs.Sequents.{is_included}
use Rattle.lgc_sequents.specs.Everywhere.{IsTrueEverywhere, IsCounterexample}
use Rattle.lgc_numbering.specs.declared.node.Node.{Node}
use Rattle.lgc_numbering.specs.Numbering.{IsNumbering, AreNodesOf}
use Rattle.lgc_packed.specs.Packed.{unpacked}
use Rattle.lgc_lemmas.specs.Plain.{PlainLemma}
use Rattle.lgc_lemmas.specs.Nodes.{AreNodes}
use Rattle.lgc_lemmas.specs.Steps.{AreSteps}
use Rattle.lgc_decision.specs.declared.decided.Decided.{Decided}
use Rattle.lgc_decision.specs.declared.decided.Decided.TheVariants.{Proved, Refuted}

-- each formula is a subformula of one of the goal's
abbrev pub AreSubformulasOf : List SignedFormula → List Formula → Type 0
AreSubformulasOf goal formulas = All (λ f. Any (λ item. IsSubformula f item.formula) goal) formulas

-- lemmas over numbered formulas are steps by rules
pub record AreLemmas (logic : Logic) (rules : List OperatorRule) (formulas : List Formula) (lemmas : List PlainLemma) : Type 0 where
  pub nodes : List Node
  pub numbering : IsNumbering formulas
  pub are : AreNodesOf formulas nodes
  pub fit : AreNodes logic nodes
  pub steps : AreSteps logic nodes rules [] lemmas

-- The goal includes the lemma at a place. The numbered formulas are subformulas of the goal's, and the lemmas are steps by rules.
pub record IsProvedFrom (logic : Logic) (rules : List OperatorRule) (goal : List SignedFormula) (formulas : List Formula) (lemmas : List PlainLemma) (place : ℕ) : Type 0 where
  pub lemmas_are : AreLemmas logic rules formulas lemmas
  pub parts : AreSubformulasOf goal formulas
  pub lemma : PlainLemma
  pub is : slice_get lemmas place ≡ Some lemma
  pub included : is_included (unpacked formulas lemma.sequent) goal ≡ true

-- what is decided of a goal is right
abbrev pub IsDecided : {size : ℕ} → Logic → List OperatorRule → List SignedFormula → Decided size → Type 0
IsDecided logic rules goal (Proved formulas lemmas place) = IsProvedFrom logic rules goal formulas lemmas place × IsTrueEverywhere logic goal
IsDecided logic rules goal (Refuted entries) = IsCounterexample logic goal entries
