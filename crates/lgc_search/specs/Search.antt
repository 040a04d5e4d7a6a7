-- What the search has while it proves the premises of a step.
use Rattle.std.specs.Prelude.{◌≡◌, ◌<◌, ℕ, ◌^◌, ◌+◌, ◌*◌, ◌||◌, false, List, All, slice_get, slice_index, Some, length, unwrap_or, ◌-◌, []}
use Rattle.std.specs.List.{zip, remove}
use Rattle.lgc_values.specs.Logic.{Logic}
use Rattle.lgc_clauses.specs.Rules.{OperatorRule}
use Rattle.lgc_numbering.specs.declared.node.Node.{Node}
use Rattle.lgc_numbering.specs.declared.node.Node.TheVariants.{Compound}
use Rattle.lgc_packed.specs.Packed.{marks, IsIncluded, is_true_of}
use Rattle.lgc_lemmas.specs.Plain.{PlainLemma}
use Rattle.lgc_lemmas.specs.Nodes.{AreValues}
use Rattle.lgc_lemmas.specs.Steps.{ArePremises}
use Rattle.lgc_lemmas.specs.Answers.{IsProvedBy, IsRefutedBy}
use Rattle.lgc_search.specs.declared.answer.Answer.{Answer}
use Rattle.lgc_search.specs.declared.answer.Answer.TheVariants.{Proved, Refuted}
use Rattle.lgc_search.specs.declared.answer.Premises.{Premises}
use Rattle.lgc_search.specs.declared.answer.Premises.TheVariants as premises

-- an answer to a goal is right: a lemma that the goal includes, or values under which the goal is false
abbrev pub IsAnswer : Logic → List Node → List PlainLemma → List (ℕ × List ℕ) → Answer → Type 0
IsAnswer logic nodes lemmas goal (Proved place) = IsProvedBy logic.size lemmas goal place
IsAnswer logic nodes lemmas goal (Refuted values) = IsRefutedBy logic nodes goal values

-- ---- steps

-- a compound of a goal, with the rest of the goal
pub record IsOpened (nodes : List Node) (goal : List (ℕ × List ℕ)) (op principal : ℕ) (sign arguments : List ℕ) (rest : List (ℕ × List ℕ)) : Type 0 where
  pub at : ℕ
  pub is : slice_get goal at ≡ Some (principal, sign)
  pub compound : slice_get nodes principal ≡ Some (Compound op arguments)
  pub left : rest ≡ remove goal at

-- the clauses of the rule with a number, counted from 1
abbrev pub clauses_of : List OperatorRule → ℕ → List (List (List ℕ))
clauses_of rules number = (unwrap_or (slice_get rules (number - 1)) (record { op = 0; sign = []; clauses = [] })).clauses

-- The premises for some clauses are proved. What their lemmas have besides the clauses is kept, and lies in the rest of the goal.
pub record AreProved (n : ℕ) (lemmas : List PlainLemma) (rest : List (ℕ × List ℕ)) (arguments : List ℕ) (clauses : List (List (List ℕ))) (cited : List ℕ) (kept : List (ℕ × List ℕ)) : Type 0 where
  pub premises : ArePremises n lemmas (marks kept) arguments clauses cited
  pub within : IsIncluded n kept rest

-- the premise for some clause is false
pub record IsOneRefuted (logic : Logic) (nodes : List Node) (clauses : List (List (List ℕ))) (arguments : List ℕ) (rest : List (ℕ × List ℕ)) (values : List ℕ) : Type 0 where
  pub values_are : AreValues logic nodes (slice_index values)
  pub place : ℕ
  pub sets : List (List ℕ)
  pub is : slice_get clauses place ≡ Some sets
  pub premise : List (ℕ × List ℕ)
  pub made : (k w : ℕ) → w < logic.size → marks premise k w ≡ (marks rest k w || marks (zip arguments sets) k w)
  pub fails : is_true_of (slice_index values) premise ≡ false

-- what is found of the premises: lemmas for all of them, a lemma that the rest of the goal includes, or values under which one is false
abbrev pub AreFound : {size : ℕ} → Logic → List Node → List PlainLemma → List (List (List ℕ)) → List ℕ → List (ℕ × List ℕ) → Premises size → Type 0
AreFound logic nodes lemmas clauses arguments rest (premises.All cited kept) = AreProved logic.size lemmas rest arguments clauses cited kept
AreFound logic nodes lemmas clauses arguments rest (premises.Enough place) = IsProvedBy logic.size lemmas rest place
AreFound logic nodes lemmas clauses arguments rest (premises.Refuted values) = IsOneRefuted logic nodes clauses arguments rest values

-- ---- why the search ends

-- a formula outweighs four formulas before it
abbrev pub weight : ℕ → ℕ
weight k = 5 ^ k
