-- Lemmas stay steps while rules and lemmas are appended.
use Rattle.std.proofs.Common.{◌≡◌, ℕ, zero, suc, ◌+◌, ◌-◌, ◌<◌, ◌≤◌, Bool, true, ◌||◌, List, [], ◌∷◌, ◌++◌, length, get_or, slice_get, Some, take, drop, refl, sym, ◌∙◌, ap, subst, ⊎_elim, append_assoc}
use Rattle.std.specs.Prelude.{All}
use Rattle.std.specs.List.{zip}
use Rattle.std.proofs.lemmas.List.{append-nil, take-append-drop}
use Rattle.std.proofs.lemmas.Option.{get_or_from_slice_get}
use Rattle.std.proofs.lemmas.Bool.{or_cases, or_left, or_right}
use Rattle.lgc_values.specs.Logic.{Logic}
use Rattle.lgc_clauses.specs.Rules.{OperatorRule}
use Rattle.lgc_numbering.specs.declared.node.Node.{Node}
use Rattle.lgc_packed.specs.Packed.{marks, IsIncluded, added}
use Rattle.lgc_packed.proofs.Marks.{marks-added}
use Rattle.lgc_packed.proofs.InclusionLaws.{marks-at}
use Rattle.lgc_lemmas.specs.declared.lemma.Reason.{Reason}
use Rattle.lgc_lemmas.specs.declared.lemma.Reason.TheVariants.{Axiom, ByRule}
use Rattle.lgc_lemmas.specs.Plain.{PlainLemma}
use Rattle.lgc_lemmas.specs.Steps.{IsPremise, ArePremises, IsByRule, IsReason, IsStep, AreSteps, IsGrown}
use Rattle.lgc_lemmas.specs.Answers.{IsProvedBy}

-- ---- lists that grow
module _ {X : Type 0} where
  pub slice_get-append : (xs ys : List X) (i : ℕ) (x : X) → slice_get xs i ≡ Some x → slice_get (xs ++ ys) i ≡ Some x
  slice_get-append [] ys i x here = cc
  slice_get-append (y ∷ xs) ys zero x here = here
  slice_get-append (y ∷ xs) ys (suc i) x here = slice_get-append xs ys i x here

  pub slice_get-last : (xs : List X) (x : X) → slice_get (xs ++ x ∷ []) (length xs) ≡ Some x
  slice_get-last [] x = refl
  slice_get-last (y ∷ xs) x = slice_get-last xs x

  pub grown_same : (xs : List X) → IsGrown X xs xs
  grown_same xs = record { more = []; is = sym (append-nil xs) }

  pub grown_push : (xs ys : List X) (x : X) → ys ≡ xs ++ x ∷ [] → IsGrown X xs ys
  grown_push xs ys x e = record { more = x ∷ []; is = e }

  pub grown_kept : (xs ys : List X) → take (length xs) ys ≡ xs → IsGrown X xs ys
  grown_kept xs ys kept = record { more = drop (length xs) ys; is = sym (take-append-drop (length xs) ys) ∙ ap (λ zs. zs ++ drop (length xs) ys) kept }

  pub grown_more : (xs ys zs : List X) → IsGrown X xs ys → IsGrown X ys zs → IsGrown X xs zs
  grown_more xs ys zs first next = record { more = first.more ++ next.more; is = next.is ∙ ap (λ l. l ++ next.more) first.is ∙ append_assoc xs first.more next.more }

  pub slice_get-grown : (xs ys : List X) (i : ℕ) (x : X) → IsGrown X xs ys → slice_get xs i ≡ Some x → slice_get ys i ≡ Some x
  slice_get-grown xs ys i x grown here = ap (λ l. slice_get l i) grown.is ∙ slice_get-append xs grown.more i x here

-- ---- premises
module _ (n : ℕ) where
  pub premises_grown : (old new : List PlainLemma) (besides : ℕ → ℕ → Bool) (arguments : List ℕ) (clauses : List (List (List ℕ))) (cited : List ℕ) → IsGrown PlainLemma old new → ArePremises n old besides arguments clauses cited → ArePremises n new besides arguments clauses cited
  premises_grown old new besides arguments [] [] grown are = tt
  premises_grown old new besides arguments [] (place ∷ cited) grown are = are
  premises_grown old new besides arguments (sets ∷ clauses) [] grown are = are
  premises_grown old new besides arguments (sets ∷ clauses) (place ∷ cited) grown are =
      (record { lemma = are.0.lemma; is = slice_get-grown old new place are.0.lemma grown are.0.is; within = are.0.within }, premises_grown old new besides arguments clauses cited grown are.1)

  pub premises_wider : (lemmas : List PlainLemma) (besides wider : ℕ → ℕ → Bool) (arguments : List ℕ) (clauses : List (List (List ℕ))) (cited : List ℕ) → ((k w : ℕ) → w < n → besides k w ≡ true → wider k w ≡ true) → ArePremises n lemmas besides arguments clauses cited → ArePremises n lemmas wider arguments clauses cited
  premises_wider lemmas besides wider arguments [] [] wide are = tt
  premises_wider lemmas besides wider arguments [] (place ∷ cited) wide are = are
  premises_wider lemmas besides wider arguments (sets ∷ clauses) [] wide are = are
  premises_wider lemmas besides wider arguments (sets ∷ clauses) (place ∷ cited) wide are =
      (record { lemma = are.0.lemma; is = are.0.is; within = λ k w l m. widen k w l (are.0.within k w l m) }, premises_wider lemmas besides wider arguments clauses cited wide are.1)
    where
      widen : (k w : ℕ) → w < n → (besides k w || marks (zip arguments sets) k w) ≡ true → (wider k w || marks (zip arguments sets) k w) ≡ true
      widen k w l m = ⊎_elim (λ aside. or_left (wider k w) (marks (zip arguments sets) k w) (wide k w l aside)) (λ here. or_right (wider k w) (marks (zip arguments sets) k w) here) (or_cases (besides k w) (marks (zip arguments sets) k w) m)

  pub premises_push : (lemmas : List PlainLemma) (besides : ℕ → ℕ → Bool) (arguments : List ℕ) (clauses : List (List (List ℕ))) (cited : List ℕ) (sets : List (List ℕ)) (place : ℕ) → ArePremises n lemmas besides arguments clauses cited → IsPremise n lemmas besides (zip arguments sets) place
      → ArePremises n lemmas besides arguments (clauses ++ sets ∷ []) (cited ++ place ∷ [])
  premises_push lemmas besides arguments [] [] sets place are is = (is, tt)
  premises_push lemmas besides arguments [] (p ∷ cited) sets place are is = absurd are
  premises_push lemmas besides arguments (s ∷ clauses) [] sets place are is = absurd are
  premises_push lemmas besides arguments (s ∷ clauses) (p ∷ cited) sets place are is = (are.0, premises_push lemmas besides arguments clauses cited sets place are.1 is)

-- ---- steps
module _ (logic : Logic) (nodes : List Node) where
  reason_rules : (old new : List OperatorRule) (before : List PlainLemma) (sequent : List (ℕ × List ℕ)) (reason : Reason) → IsGrown OperatorRule old new → IsReason logic nodes old before sequent reason → IsReason logic nodes new before sequent reason
  reason_rules old new before sequent Axiom grown is = is
  reason_rules old new before sequent (ByRule number principal cited) grown is =
      record { rule = is.rule; counted = is.counted; numbered = slice_get-grown old new (number - 1) is.rule grown is.numbered; arguments = is.arguments; compound = is.compound; signed = is.signed; premises = is.premises }

  -- with further rules
  pub steps_rules : (old new : List OperatorRule) (before lemmas : List PlainLemma) → IsGrown OperatorRule old new → AreSteps logic nodes old before lemmas → AreSteps logic nodes new before lemmas
  steps_rules old new before [] grown steps = tt
  steps_rules old new before (lemma ∷ lemmas) grown steps =
      (record { packed = steps.0.packed; numbers = steps.0.numbers; reason = reason_rules old new before lemma.sequent lemma.reason grown steps.0.reason }, steps_rules old new (before ++ lemma ∷ []) lemmas grown steps.1)

  steps_end : (rules : List OperatorRule) (before lemmas : List PlainLemma) (last : PlainLemma) → AreSteps logic nodes rules before lemmas → IsStep logic nodes rules (before ++ lemmas) last → AreSteps logic nodes rules before (lemmas ++ last ∷ [])
  steps_end rules before [] last steps step = (subst (λ (b : List PlainLemma). IsStep logic nodes rules b last) (append-nil before) step, tt)
  steps_end rules before (lemma ∷ lemmas) last steps step =
      (steps.0, steps_end rules (before ++ lemma ∷ []) lemmas last steps.1 (subst (λ (b : List PlainLemma). IsStep logic nodes rules b last) (sym (append_assoc before (lemma ∷ []) lemmas)) step))

  -- with a further lemma
  pub steps_push : (rules : List OperatorRule) (lemmas pushed : List PlainLemma) (last : PlainLemma) → pushed ≡ lemmas ++ last ∷ [] → AreSteps logic nodes rules [] lemmas → IsStep logic nodes rules lemmas last → AreSteps logic nodes rules [] pushed
  steps_push rules lemmas pushed last e steps step = subst (AreSteps logic nodes rules []) (sym e) (steps_end rules [] lemmas last steps step)

-- the last lemma, where the goal includes it
pub proved_by_last : (n : ℕ) (lemmas pushed : List PlainLemma) (last : PlainLemma) (place : ℕ) (goal : List (ℕ × List ℕ)) → pushed ≡ lemmas ++ last ∷ [] → place ≡ length lemmas → IsIncluded n last.sequent goal → IsProvedBy n pushed goal place
proved_by_last n lemmas pushed last place goal e at included = record { lemma = last; is = (λ j. slice_get (e j) (at j)) ∙ slice_get-last lemmas last; included = included }

-- what appending a rule, or a lemma, leaves as it was
pub ruleset state_laws = (grown_same, steps_rules)

-- ---- axioms

-- a pair of the goal by itself
pub axiom_included : (n : ℕ) (goal pairs empty new : List (ℕ × List ℕ)) (at k : ℕ) (sign : List ℕ) (d e : ℕ × List ℕ) → pairs ≡ goal → slice_get goal at ≡ Some (k, sign) → empty ≡ [] → new ≡ added n (get_or pairs at d).0 (get_or pairs at e).1 empty → IsIncluded n new goal
axiom_included n goal pairs empty new at k sign d e same here none made j w l m =
    let there : slice_get pairs at ≡ Some (k, sign) = ap (λ (xs : List (ℕ × List ℕ)). slice_get xs at) same ∙ here in
    let first : (get_or pairs at d).0 ≡ k = ap (λ pair. pair.0) (get_or_from_slice_get pairs at (k, sign) d there) in
    let second : (get_or pairs at e).1 ≡ sign = ap (λ pair. pair.1) (get_or_from_slice_get pairs at (k, sign) e there) in
    let new_is : new ≡ added n k sign [] = made ∙ (λ i. added n (first i) (second i) (none i)) in
    marks-at goal at (k, sign) j w here (sym (ap (λ (xs : List (ℕ × List ℕ)). marks xs j w) new_is ∙ marks-added n k sign j w l []) ∙ m)
