-- What a step cites: lemmas before it, whose formulas are those of the conclusion or arguments of the principal formula, and which weigh
-- less where each compound outweighs its arguments.
use Rattle.std.proofs.Common.{◌≡◌, ℕ, zero, suc, ◌+◌, ◌-◌, ◌<◌, ◌≤◌, Bool, true, false, ◌==◌, ◌||◌, ◌&&◌, not, List, [], ◌∷◌, ◌++◌, length, slice_get, take, drop, Some, refl, sym, ◌∙◌, ap, subst, arith, append_assoc}
use Rattle.std.specs.Prelude.{All}
use Rattle.std.specs.List.{remove, zip}
use Rattle.std.proofs.lemmas.List.{append-nil}
use Rattle.std.proofs.lemmas.List.Elements.{All-push, All-cons, All-nil, All-head, All-tail, All-append, All-take, All-drop}
use Rattle.lgc_values.specs.Values.{has}
use Rattle.lgc_values.specs.Logic.{Logic}
use Rattle.lgc_clauses.specs.Rules.{OperatorRule}
use Rattle.lgc_sequents.specs.Sequents.{IsSign}
use Rattle.lgc_numbering.specs.declared.node.Node.{Node}
use Rattle.lgc_numbering.specs.declared.node.Node.TheVariants.{Compound}
use Rattle.lgc_packed.specs.Packed.{IsPacked, IsIncluded, marks, total, weight_of}
use Rattle.lgc_packed.proofs.Rising.{some_member}
use Rattle.lgc_packed.proofs.Marks.{marks-append, marks-remove}
use Rattle.lgc_packed.proofs.InclusionLaws.{All-included, marked_has}
use Rattle.lgc_packed.proofs.Weights.{marked_occurs, place_of, weight_of-remove, weight_of-append, weight_of-zip, weight_of-included}
use Rattle.lgc_lemmas.specs.Plain.{PlainLemma}
use Rattle.lgc_lemmas.specs.Steps.{marks_other, IsPremise, ArePremises, IsByRule, AreSteps}
use Rattle.lgc_lemmas.specs.Citations.{FallsAtArguments, IsClosedUnderArguments, IsLighter, HasFormulasIn}
use Rattle.lgc_lemmas.proofs.Truth.{all_at}

-- the lemmas of steps are packed
pub all_packed : (logic : Logic) (nodes : List Node) (rules : List OperatorRule) (before lemmas : List PlainLemma) → All (λ lemma. IsPacked logic.size lemma.sequent) before → AreSteps logic nodes rules before lemmas → All (λ lemma. IsPacked logic.size lemma.sequent) (before ++ lemmas)
all_packed logic nodes rules before [] all steps = subst (All (λ (lemma : PlainLemma). IsPacked logic.size lemma.sequent)) (sym (append-nil before)) all
all_packed logic nodes rules before (lemma ∷ lemmas) all steps =
    subst (All (λ (l : PlainLemma). IsPacked logic.size l.sequent)) (append_assoc before (lemma ∷ []) lemmas)
    (all_packed logic nodes rules (before ++ lemma ∷ []) lemmas (All-push (λ (l : PlainLemma). IsPacked logic.size l.sequent) before lemma all steps.0.packed) steps.1)

-- what is true of each premise's place
each_premise : (P : ℕ → Type 0) (n : ℕ) (lemmas : List PlainLemma) (besides : ℕ → ℕ → Bool) (arguments : List ℕ) → ((sets : List (List ℕ)) (place : ℕ) → IsPremise n lemmas besides (zip arguments sets) place → P place) → (clauses : List (List (List ℕ))) (cited : List ℕ) → ArePremises n lemmas besides arguments clauses cited → All P cited
each_premise P n lemmas besides arguments one [] [] premises = All-nil P
each_premise P n lemmas besides arguments one [] (place ∷ cited) premises = absurd premises
each_premise P n lemmas besides arguments one (sets ∷ clauses) [] premises = absurd premises
each_premise P n lemmas besides arguments one (sets ∷ clauses) (place ∷ cited) premises = All-cons P place cited (one sets place premises.0) (each_premise P n lemmas besides arguments one clauses cited premises.1)

numbers_zip : (P : ℕ → Type 0) (arguments : List ℕ) (sets : List (List ℕ)) → All P arguments → All (λ pair. P pair.0) (zip arguments sets)
numbers_zip P [] sets all = λ i d l. absurd (omega (arith, l))
numbers_zip P (a ∷ arguments) [] all = λ i d l. absurd (omega (arith, l))
numbers_zip P (a ∷ arguments) (s ∷ sets) all = All-cons (λ pair. P pair.0) (a, s) (zip arguments sets) (All-head P a arguments all) (numbers_zip P arguments sets (All-tail P a arguments all))

module _ (n : ℕ) (lemmas : List PlainLemma) (all : All (λ lemma. IsPacked n lemma.sequent) lemmas) (sequent : List (ℕ × List ℕ)) (packed : IsPacked n sequent) (principal : ℕ) (arguments : List ℕ) (at : ℕ) (d : ℕ × List ℕ) (here : slice_get sequent at ≡ Some d) (own : d.0 ≡ principal) where
  -- a premise's lemma lies in the rest of the conclusion and the clause
  in_premise : (sets : List (List ℕ)) (lemma : PlainLemma) → ((k w : ℕ) → w < n → marks lemma.sequent k w ≡ true → (marks_other sequent principal k w || marks (zip arguments sets) k w) ≡ true) → IsIncluded n lemma.sequent (remove sequent at ++ zip arguments sets)
  in_premise sets lemma within k w l m =
      marks-append (remove sequent at) (zip arguments sets) k w
      ∙ ap (λ b. b || marks (zip arguments sets) k w) (marks-remove n sequent at d k w packed here ∙ ap (λ (j : ℕ). marks sequent k w && not (j == k)) own)
      ∙ within k w l m

  lighter : (weight : ℕ → ℕ) → total weight arguments < weight principal → (sets : List (List ℕ)) (place : ℕ) → IsPremise n lemmas (marks_other sequent principal) (zip arguments sets) place → IsLighter weight lemmas sequent place
  lighter weight falls sets place premise = record {
    lemma = premise.lemma;
    is = premise.is;
    lighter = omega (arith, weight_of-included weight n premise.lemma.sequent (remove sequent at ++ zip arguments sets) (all_at (λ (lemma : PlainLemma). IsPacked n lemma.sequent) lemmas place premise.lemma all premise.is) (in_premise sets premise.lemma premise.within), weight_of-append weight (remove sequent at) (zip arguments sets), weight_of-zip weight arguments sets, weight_of-remove weight sequent at d here, ap weight own, falls);
  }

  formulas_in : (P : ℕ → Type 0) → All P arguments → All (λ pair. P pair.0) sequent → (sets : List (List ℕ)) (place : ℕ) → IsPremise n lemmas (marks_other sequent principal) (zip arguments sets) place → HasFormulasIn P lemmas place
  formulas_in P below numbers sets place premise = record {
    lemma = premise.lemma;
    is = premise.is;
    formulas = All-included P n premise.lemma.sequent (remove sequent at ++ zip arguments sets) (all_at (λ (lemma : PlainLemma). IsPacked n lemma.sequent) lemmas place premise.lemma all premise.is) (in_premise sets premise.lemma premise.within)
        (All-append (λ (pair : ℕ × List ℕ). P pair.0) (remove sequent at) (zip arguments sets) (All-append (λ (pair : ℕ × List ℕ). P pair.0) (take at sequent) (drop (suc at) sequent) (All-take (λ pair. P pair.0) at sequent numbers) (All-drop (λ pair. P pair.0) (suc at) sequent numbers)) (numbers_zip P arguments sets below));
  }

module _ (logic : Logic) (nodes : List Node) (rules : List OperatorRule) (signs : All (λ rule. IsSign logic.size rule.sign) rules) (before : List PlainLemma) (all : All (λ lemma. IsPacked logic.size lemma.sequent) before) (sequent : List (ℕ × List ℕ)) (packed : IsPacked logic.size sequent) (number principal : ℕ) (cited : List ℕ) (step : IsByRule logic nodes rules before sequent number principal cited) where
  member : (w : ℕ) × (w < logic.size) × (has step.rule.sign w ≡ true)
  member = some_member logic.size step.rule.sign (all_at (λ (rule : OperatorRule). IsSign logic.size rule.sign) rules (number - 1) step.rule signs step.numbered)

  marked : marks sequent principal member.0 ≡ true
  marked = step.signed member.0 member.1 member.2

  found : (i : ℕ) × ((d : ℕ × List ℕ) × ((slice_get sequent i ≡ Some d) × (d.0 ≡ principal)))
  found = place_of sequent principal (marked_occurs sequent principal member.0 marked)

  -- each cited lemma weighs less than the conclusion
  pub cited_lighter : (weight : ℕ → ℕ) → FallsAtArguments nodes weight → All (IsLighter weight before sequent) cited
  cited_lighter weight falls = each_premise (IsLighter weight before sequent) logic.size before (marks_other sequent principal) step.arguments
      (lighter logic.size before all sequent packed principal step.arguments found.0 found.1.0 found.1.1.0 found.1.1.1 weight (falls principal step.rule.op step.arguments step.compound)) step.rule.clauses cited step.premises

  -- what is true of the conclusion's formulas, and of the arguments of each compound of which it is, is true of each cited lemma's
  pub cited_formulas : (P : ℕ → Type 0) → IsClosedUnderArguments nodes P → All (λ pair. P pair.0) sequent → All (HasFormulasIn P before) cited
  cited_formulas P closed numbers = each_premise (HasFormulasIn P before) logic.size before (marks_other sequent principal) step.arguments
      (formulas_in logic.size before all sequent packed principal step.arguments found.0 found.1.0 found.1.1.0 found.1.1.1 P (closed principal step.rule.op step.arguments step.compound (marked_has P sequent principal member.0 numbers marked)) numbers) step.rule.clauses cited step.premises
