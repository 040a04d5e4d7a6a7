-- Steps: when a lemma holds by the rules and by the lemmas before it.
use Rattle.std.specs.Prelude.{◌≡◌, ◌<◌, ◌≤◌, ℕ, ◌-◌, ◌==◌, ◌||◌, ◌&&◌, not, Bool, true, List, [], ◌∷◌, ◌++◌, All, length, slice_get, Some}
use Rattle.std.specs.List.{zip}
use Rattle.lgc_values.specs.Values.{has}
use Rattle.lgc_values.specs.Logic.{Logic}
use Rattle.lgc_clauses.specs.Rules.{OperatorRule}
use Rattle.lgc_numbering.specs.declared.node.Node.{Node}
use Rattle.lgc_numbering.specs.declared.node.Node.TheVariants.{Compound}
use Rattle.lgc_packed.specs.Packed.{IsPacked, marks, is_full}
use Rattle.lgc_lemmas.specs.declared.lemma.Reason.{Reason}
use Rattle.lgc_lemmas.specs.declared.lemma.Reason.TheVariants.{Axiom, ByRule}
use Rattle.lgc_lemmas.specs.Plain.{PlainLemma}
use Rattle.lgc_lemmas.specs.Nodes.{HasNumbersBelow}

-- whether the value w stands on the formula with the number k, which isn't the principal one
abbrev pub marks_other : List (ℕ × List ℕ) → ℕ → ℕ → ℕ → Bool
marks_other pairs principal k w = marks pairs k w && not (principal == k)

-- a lemma serves as the premise for a clause: each value in it stands besides, or in the clause at the arguments
pub record IsPremise (n : ℕ) (lemmas : List PlainLemma) (besides : ℕ → ℕ → Bool) (clause : List (ℕ × List ℕ)) (place : ℕ) : Type 0 where
  pub lemma : PlainLemma
  pub is : slice_get lemmas place ≡ Some lemma
  pub within : (k w : ℕ) → w < n → marks lemma.sequent k w ≡ true → (besides k w || marks clause k w) ≡ true

-- there is one for each clause, in order
abbrev pub ArePremises : ℕ → List PlainLemma → (ℕ → ℕ → Bool) → List ℕ → List (List (List ℕ)) → List ℕ → Type 0
ArePremises n lemmas besides arguments [] [] = Unit {0}
ArePremises n lemmas besides arguments [] (place ∷ places) = ⊥
ArePremises n lemmas besides arguments (sets ∷ clauses) [] = ⊥
ArePremises n lemmas besides arguments (sets ∷ clauses) (place ∷ places) = IsPremise n lemmas besides (zip arguments sets) place × ArePremises n lemmas besides arguments clauses places

-- A step by the rule with a number, counted from 1: the rule introduces the operator of the principal formula, whose sign has the rule's
-- values, and there is a premise for each clause. Besides the clause a premise has only what stands on other formulas of the conclusion.
pub record IsByRule (logic : Logic) (nodes : List Node) (rules : List OperatorRule) (lemmas : List PlainLemma) (sequent : List (ℕ × List ℕ)) (number principal : ℕ) (cited : List ℕ) : Type 0 where
  pub rule : OperatorRule
  pub counted : 1 ≤ number
  pub numbered : slice_get rules (number - 1) ≡ Some rule
  pub arguments : List ℕ
  pub compound : slice_get nodes principal ≡ Some (Compound rule.op arguments)
  pub signed : (w : ℕ) → w < logic.size → has rule.sign w ≡ true → marks sequent principal w ≡ true
  pub premises : ArePremises logic.size lemmas (marks_other sequent principal) arguments rule.clauses cited

abbrev pub IsReason : Logic → List Node → List OperatorRule → List PlainLemma → List (ℕ × List ℕ) → Reason → Type 0
IsReason logic nodes rules lemmas sequent Axiom = is_full logic.size sequent ≡ true
IsReason logic nodes rules lemmas sequent (ByRule number principal cited) = IsByRule logic nodes rules lemmas sequent number principal cited

-- a lemma is a packed sequent of numbered formulas, and an axiom or a step from the lemmas before it
pub record IsStep (logic : Logic) (nodes : List Node) (rules : List OperatorRule) (before : List PlainLemma) (lemma : PlainLemma) : Type 0 where
  pub packed : IsPacked logic.size lemma.sequent
  pub numbers : HasNumbersBelow (length nodes) lemma.sequent
  pub reason : IsReason logic nodes rules before lemma.sequent lemma.reason

-- each lemma is a step, where these are the lemmas before the first one
abbrev pub AreSteps : Logic → List Node → List OperatorRule → List PlainLemma → List PlainLemma → Type 0
AreSteps logic nodes rules before [] = Unit {0}
AreSteps logic nodes rules before (lemma ∷ lemmas) = IsStep logic nodes rules before lemma × AreSteps logic nodes rules (before ++ lemma ∷ []) lemmas

-- the earlier items stay in their places
pub record IsGrown (X : Type 0) (old new : List X) : Type 0 where
  pub more : List X
  pub is : new ≡ old ++ more
