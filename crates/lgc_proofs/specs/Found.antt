-- What is found of a goal, and the lines that are appended for it.
use Rattle.std.specs.Prelude.{◌≡◌, ◌<◌, ℕ, List, [], ◌∷◌, ◌++◌, map, All}
use Rattle.std.specs.List.{sum_by}
use Rattle.lgc_values.specs.Logic.{Logic}
use Rattle.lgc_clauses.specs.Rules.{OperatorRule, of_operator}
use Rattle.lgc_syntax.specs.Sizes as syntax
use Rattle.lgc_sequents.specs.Signed.{SignedFormula}
use Rattle.lgc_sequents.specs.Lines.{PlainLine, sequent_at, formulas_of}
use Rattle.lgc_sequents.specs.Steps.{AreSteps}
use Rattle.lgc_sequents.specs.Rests.{cited_by}
use Rattle.lgc_sequents.specs.Everywhere.{IsTrueEverywhere, IsCounterexample}
use Rattle.lgc_decision.specs.Decided.{AreSubformulasOf}
use Rattle.lgc_proofs.specs.declared.found.Found.{Found}
use Rattle.lgc_proofs.specs.declared.found.Found.TheVariants.{Line, Refuted}
use Rattle.lgc_proofs.specs.Proofs.{HasItems}
use Rattle.lgc_proofs.specs.Reasons.{IsPlainReason}

-- how many operators occur in a sequent
abbrev pub operators : List SignedFormula → ℕ
operators items = sum_by (λ item. syntax.operators item.formula) items

-- the lines that a line cites have fewer operators than it
abbrev pub CitesLighter : List PlainLine → PlainLine → Type 0
CitesLighter lines line = All (λ position. operators (sequent_at lines position) < operators line.sequent) (cited_by line.reason)

-- Lines were appended for a goal: each is an axiom or a step by a rule from lines with fewer operators, and its formulas are subformulas of
-- the goal's.
pub record AreAppended (logic : Logic) (rules : List OperatorRule) (goal : List SignedFormula) (old new : List PlainLine) : Type 0 where
  pub more : List PlainLine
  pub is : new ≡ old ++ more
  pub steps : AreSteps logic.size (map of_operator rules) old more
  pub plain : All (λ line. IsPlainReason line.reason) more
  pub parts : All (λ line. AreSubformulasOf goal (formulas_of line)) more
  pub lighter : All (CitesLighter new) more

-- What is found of a goal is right: a line with its items, where it is true under every valuation, or a valuation under which it is false.
pub record IsProvedAt (logic : Logic) (lines : List PlainLine) (goal : List SignedFormula) (position : ℕ) : Type 0 where
  pub line : HasItems lines goal position
  pub holds : IsTrueEverywhere logic goal

abbrev pub IsFound : Logic → List PlainLine → List SignedFormula → Found → Type 0
IsFound logic lines goal (Line position) = IsProvedAt logic lines goal position
IsFound logic lines goal (Refuted entries) = IsCounterexample logic goal entries
