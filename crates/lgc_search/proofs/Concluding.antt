-- What the search answers, from what it found of the premises.
use Rattle.std.proofs.Common.{◌≡◌, ℕ, zero, suc, ◌+◌, ◌-◌, ◌<◌, ◌≤◌, Bool, true, false, ◌==◌, ◌||◌, ◌&&◌, not, List, [], ◌∷◌, ◌++◌, length, get_or, slice_get, slice_index, take, Some, Ok, Err, refl, sym, ◌∙◌, ap, subst, arith, ⊎_elim}
use Rattle.std.specs.Prelude.{All, Result, OnOk, OnErr, unwrap_or}
use Rattle.std.specs.List.{remove, zip}
use Rattle.std.proofs.lemmas.Option.{slice_get_within, slice_get-get_or, get_or_from_slice_get}
use Rattle.std.proofs.lemmas.List.{take_all}
use Rattle.std.proofs.lemmas.Bool.{eqb-true, eq-eqb, and_parts, and_from, or_cases, or_left, or_right, true≢false}
use Rattle.lgc_values.specs.Values.{has}
use Rattle.lgc_values.specs.Logic.{Logic, IsLogic}
use Rattle.lgc_clauses.specs.Rules.{OperatorRule}
use Rattle.lgc_clauses.specs.Irredundance.{clause_at}
use Rattle.lgc_calculus.specs.Arguments.{IsExactAtArguments}
use Rattle.lgc_calculus.specs.RuleBook.{IsRightBook, IsNumberFor}
use Rattle.lgc_numbering.specs.declared.node.Node.{Node}
use Rattle.lgc_numbering.specs.declared.node.Node.TheVariants.{Compound}
use Rattle.lgc_packed.specs.Packed.{IsPacked, IsIncluded, marks, marks_besides, is_full, added, added_all}
use Rattle.lgc_packed.proofs.Marks.{marks-added, marks-added_all, marks-own, marks-remove}
use Rattle.lgc_packed.proofs.ClauseLaws.{take_more}
use Rattle.lgc_packed.proofs.InclusionLaws.{All-included}
use Rattle.lgc_lemmas.specs.declared.lemma.Reason.{Reason}
use Rattle.lgc_lemmas.specs.declared.lemma.Reason.TheVariants.{Axiom, ByRule}
use Rattle.lgc_lemmas.specs.Plain.{PlainLemma}
use Rattle.lgc_lemmas.specs.Nodes.{AreNodes, HasNumbersBelow}
use Rattle.lgc_lemmas.specs.Steps.{marks_other, ArePremises, IsByRule, IsReason, IsStep, AreSteps, IsGrown}
use Rattle.lgc_lemmas.specs.Answers.{IsProvedBy, IsRefutedBy}
use Rattle.lgc_lemmas.proofs.Truth.{all_at, exact_rules, false_back}
use Rattle.lgc_lemmas.proofs.StepLaws.{slice_get-grown, premises_grown, premises_wider, premises_push, steps_push}
use Rattle.lgc_search.specs.Search.{IsOpened, clauses_of, AreProved, IsOneRefuted}

-- ---- an appended lemma
module _ (logic : Logic) (nodes : List Node) (rules : List OperatorRule) (n : ℕ) (size : logic.size ≡ n) (goal : List (ℕ × List ℕ)) (old new : List PlainLemma) (lemma : PlainLemma) (packed : IsPacked n lemma.sequent) (numbers : HasNumbersBelow (length nodes) goal) (included : IsIncluded logic.size lemma.sequent goal)
    (reason : IsReason logic nodes rules old lemma.sequent lemma.reason) (steps : AreSteps logic nodes rules [] old) where
  its_packed : IsPacked logic.size lemma.sequent
  its_packed = subst (λ (k : ℕ). IsPacked k lemma.sequent) (sym size) packed

  step : IsStep logic nodes rules old lemma
  step = record { packed = its_packed; numbers = All-included (λ k. k < length nodes) logic.size lemma.sequent goal its_packed included numbers; reason = reason }

  pub appended_steps : {E : Type 0} (result : Result ℕ E) → OnOk result (new ≡ old ++ lemma ∷ []) → OnErr result (new ≡ old) → AreSteps logic nodes rules [] new
  appended_steps (Ok place) ok err = steps_push logic nodes rules old new lemma ok steps step
  appended_steps (Err e) ok err = subst (AreSteps logic nodes rules []) (sym err) steps

-- the lemma of a full formula
pub axiom_reason : (logic : Logic) (nodes : List Node) (rules : List OperatorRule) (before : List PlainLemma) (lemma : PlainLemma) (n : ℕ) → logic.size ≡ n → lemma.reason ≡ Axiom → is_full n lemma.sequent ≡ true → IsReason logic nodes rules before lemma.sequent lemma.reason
axiom_reason logic nodes rules before lemma n size reason full = subst (IsReason logic nodes rules before lemma.sequent) (sym reason) (ap (λ k. is_full k lemma.sequent) size ∙ full)

pub same_size : (pairs others : List (ℕ × List ℕ)) (n m : ℕ) → m ≡ n → IsIncluded n pairs others → IsIncluded m pairs others
same_size pairs others n m e = subst (λ (k : ℕ). IsIncluded k pairs others) (sym e)

-- ---- rules of a book that grows
module _ (old new : List OperatorRule) (op number : ℕ) (sign : List ℕ) (grown : IsGrown OperatorRule old new) (found : IsNumberFor old op sign number) where
  there : slice_get new (number - 1) ≡ Some found.rule
  there = slice_get-grown old new (number - 1) found.rule grown found.place

  pub number_within : number - 1 < length new
  number_within = slice_get_within new (number - 1) found.rule there

  pub clauses_grown : clauses_of new number ≡ clauses_of old number
  clauses_grown = ap (λ rule. (unwrap_or {T = OperatorRule} rule (record { op = 0; sign = []; clauses = [] })).clauses) (there ∙ sym found.place)

-- ---- a step
module _ (logic : Logic) (nodes : List Node) (are_nodes : AreNodes logic nodes) (n : ℕ) (size : logic.size ≡ n) (goal rest : List (ℕ × List ℕ)) (op principal : ℕ) (sign arguments : List ℕ) (packed : IsPacked n goal) (opened : IsOpened nodes goal op principal sign arguments rest) where
  in_rest : (k w : ℕ) → marks rest k w ≡ marks_other goal principal k w
  in_rest k w = ap (λ xs. marks xs k w) opened.left ∙ marks-remove n goal opened.at (principal, sign) k w packed opened.is

  -- what the rest includes, the goal does
  pub enough : (lemmas : List PlainLemma) (place : ℕ) → IsProvedBy logic.size lemmas rest place → IsProvedBy logic.size lemmas goal place
  enough lemmas place proved = record { lemma = proved.lemma; is = proved.is; included = λ k w l m. (and_parts (marks goal k w) (not (principal == k)) (sym (in_rest k w) ∙ proved.included k w l m)).0 }

  module _ (rules : List OperatorRule) (number : ℕ) (found : IsNumberFor rules op sign number) where
    clauses_are : clauses_of rules number ≡ found.rule.clauses
    clauses_are = ap (λ rule. (unwrap_or {T = OperatorRule} rule (record { op = 0; sign = []; clauses = [] })).clauses) found.place

    compound : slice_get nodes principal ≡ Some (Compound found.rule.op arguments)
    compound = opened.compound ∙ ap (λ (o : ℕ). Some (Compound o arguments)) (sym found.operator)

    -- values under which a premise is false
    pub refuted : (values : List ℕ) → IsLogic logic → IsRightBook logic rules → IsOneRefuted logic nodes (clauses_of rules number) arguments rest values → IsRefutedBy logic nodes goal values
    refuted values is right one = record {
      values_are = one.values_are;
      fails = false_back logic nodes (slice_index values) one.values_are are_nodes found.rule (all_at (IsExactAtArguments logic) rules (number - 1) found.rule (exact_rules logic rules is right) found.place) principal arguments compound goal one.premise one.place one.sets
          (ap (λ clauses. slice_get clauses one.place) (sym clauses_are) ∙ one.is)
          (λ w l m. ap (λ s. has s w) found.signed ∙ sym (marks-own n goal opened.at (principal, sign) w packed opened.is) ∙ m)
          (λ k w l m. one.made k w l ∙ ap (λ b. b || marks (zip arguments one.sets) k w) (in_rest k w) ∙ m) one.fails;
    }

    -- the lemma that the premises' lemmas give
    module _ (new : List OperatorRule) (grown : IsGrown OperatorRule rules new) (lemmas : List PlainLemma) (cited : List ℕ) (kept : List (ℕ × List ℕ)) (proved : AreProved logic.size lemmas rest arguments (clauses_of rules number) cited kept) (lemma : PlainLemma) (made : lemma.sequent ≡ added n principal sign kept) (reason : lemma.reason ≡ ByRule number principal cited) where
      its_marks : (k w : ℕ) → w < logic.size → marks lemma.sequent k w ≡ (marks kept k w || ((principal == k) && has sign w))
      its_marks k w l = ap (λ xs. marks xs k w) made ∙ marks-added n principal sign k w (subst (λ (s : ℕ). w < s) size l) kept

      kept_other : (k w : ℕ) → w < logic.size → marks kept k w ≡ true → marks_other goal principal k w ≡ true
      kept_other k w l m = sym (in_rest k w) ∙ proved.within k w l m

      pub step_included : IsIncluded logic.size lemma.sequent goal
      step_included k w l m = ⊎_elim
          (λ aside. (and_parts (marks goal k w) (not (principal == k)) (kept_other k w l aside)).0)
          (λ own. let both = and_parts (principal == k) (has sign w) own in subst (λ (j : ℕ). marks goal j w ≡ true) (eqb-true principal k both.0) (marks-own n goal opened.at (principal, sign) w packed opened.is ∙ both.1))
          (or_cases (marks kept k w) ((principal == k) && has sign w) (sym (its_marks k w l) ∙ m))

      by_rule : IsByRule logic nodes new lemmas lemma.sequent number principal cited
      by_rule = record {
        rule = found.rule;
        counted = found.counted;
        numbered = slice_get-grown rules new (number - 1) found.rule grown found.place;
        arguments = arguments;
        compound = compound;
        signed = λ w l m. its_marks principal w l ∙ or_right (marks kept principal w) ((principal == principal) && has sign w) (and_from (principal == principal) (has sign w) (eq-eqb principal principal refl) (ap (λ s. has s w) (sym found.signed) ∙ m));
        premises = subst (λ (clauses : List (List (List ℕ))). ArePremises logic.size lemmas (marks_other lemma.sequent principal) arguments clauses cited) clauses_are
            (premises_wider logic.size lemmas (marks kept) (marks_other lemma.sequent principal) arguments (clauses_of rules number) cited
            (λ k w l m. and_from (marks lemma.sequent k w) (not (principal == k)) (its_marks k w l ∙ or_left (marks kept k w) ((principal == k) && has sign w) m) (and_parts (marks goal k w) (not (principal == k)) (kept_other k w l m)).1) proved.premises);
      }

      pub step_reason : IsReason logic nodes new lemmas lemma.sequent lemma.reason
      step_reason = subst (IsReason logic nodes new lemmas lemma.sequent) (sym reason) by_rule

-- ---- the premises, clause by clause
pub none_proved : (n : ℕ) (lemmas : List PlainLemma) (rest : List (ℕ × List ℕ)) (arguments : List ℕ) → AreProved n lemmas rest arguments [] [] []
none_proved n lemmas rest arguments = record { premises = tt; within = λ k w l m. absurd (true≢false (sym m)) }

module _ (n : ℕ) (old new : List PlainLemma) (rest premise : List (ℕ × List ℕ)) (arguments : List ℕ) (clauses : List (List (List ℕ))) (i : ℕ) (cited : List ℕ) (kept wider : List (ℕ × List ℕ)) (place : ℕ) (lemma : PlainLemma) (within : i < length clauses) (made : premise ≡ added_all n (zip arguments (clause_at clauses i)) rest) (grown : IsGrown PlainLemma old new)
    (proved : IsProvedBy n new premise place) (here : slice_get new place ≡ Some lemma) (wider_is : (k w : ℕ) → w < n → marks wider k w ≡ (marks kept k w || marks_besides lemma.sequent (zip arguments (clause_at clauses i)) k w)) (so_far : AreProved n old rest arguments (take i clauses) cited kept) where
  clause : List (ℕ × List ℕ)
  clause = zip arguments (clause_at clauses i)

  same : proved.lemma ≡ lemma
  same = let e : Some proved.lemma ≡ Some lemma = sym proved.is ∙ here in cc

  covers : (k w : ℕ) → w < n → marks lemma.sequent k w ≡ true → (marks wider k w || marks (zip arguments (clause_at clauses i)) k w) ≡ true
  covers k w l m = by (marks (zip arguments (clause_at clauses i)) k w) refl
    where
      by : (b : Bool) → marks (zip arguments (clause_at clauses i)) k w ≡ b → (marks wider k w || b) ≡ true
      by true e = or_right (marks wider k w) true refl
      by false e = or_left (marks wider k w) false (wider_is k w l ∙ or_right (marks kept k w) (marks_besides lemma.sequent (zip arguments (clause_at clauses i)) k w) (and_from (marks lemma.sequent k w) (not (marks (zip arguments (clause_at clauses i)) k w)) m (ap not e)))

  lies : (k w : ℕ) → w < n → marks_besides lemma.sequent (zip arguments (clause_at clauses i)) k w ≡ true → marks rest k w ≡ true
  lies k w l m =
      let both = and_parts (marks lemma.sequent k w) (not (marks (zip arguments (clause_at clauses i)) k w)) m in
      pick (marks rest k w) (marks (zip arguments (clause_at clauses i)) k w) both.1 (sym (ap (λ xs. marks xs k w) made ∙ marks-added_all n (zip arguments (clause_at clauses i)) rest k w l) ∙ proved.included k w l (ap (λ (x : PlainLemma). marks x.sequent k w) same ∙ both.0))
    where
      pick : (a b : Bool) → not b ≡ true → (a || b) ≡ true → a ≡ true
      pick true b g h = refl
      pick false true g h = g
      pick false false g h = h

  pub more_proved : AreProved n new rest arguments (take (i + 1) clauses) (cited ++ place ∷ []) wider
  more_proved = subst (λ (some : List (List (List ℕ))). AreProved n new rest arguments some (cited ++ place ∷ []) wider) (sym (take_more clauses i (clause_at clauses i) (slice_get-get_or clauses i [] within))) (record {
    premises = premises_push n new (marks wider) arguments (take i clauses) cited (clause_at clauses i) place
        (premises_wider n new (marks kept) (marks wider) arguments (take i clauses) cited (λ k w l m. wider_is k w l ∙ or_left (marks kept k w) (marks_besides lemma.sequent (zip arguments (clause_at clauses i)) k w) m) (premises_grown n old new (marks kept) arguments (take i clauses) cited grown so_far.premises))
        (record { lemma = lemma; is = here; within = covers });
    within = λ k w l m. ⊎_elim (λ before. so_far.within k w l before) (λ besides. lies k w l besides) (or_cases (marks kept k w) (marks_besides lemma.sequent (zip arguments (clause_at clauses i)) k w) (sym (wider_is k w l) ∙ m));
  })

pub all_proved : (n m : ℕ) (lemmas : List PlainLemma) (rest : List (ℕ × List ℕ)) (arguments : List ℕ) (clauses : List (List (List ℕ))) (i : ℕ) (cited : List ℕ) (kept : List (ℕ × List ℕ)) → m ≡ n → length clauses ≤ i → AreProved n lemmas rest arguments (take i clauses) cited kept → AreProved m lemmas rest arguments clauses cited kept
all_proved n m lemmas rest arguments clauses i cited kept size l proved =
    subst (λ (k : ℕ). AreProved k lemmas rest arguments clauses cited kept) (sym size) (subst (λ (some : List (List (List ℕ))). AreProved n lemmas rest arguments some cited kept) (take_all i clauses l) proved)

pub one_refuted : (logic : Logic) (nodes : List Node) (n : ℕ) (clauses : List (List (List ℕ))) (arguments : List ℕ) (rest premise : List (ℕ × List ℕ)) (i : ℕ) (values : List ℕ) → logic.size ≡ n → i < length clauses → premise ≡ added_all n (zip arguments (clause_at clauses i)) rest → IsRefutedBy logic nodes premise values → IsOneRefuted logic nodes clauses arguments rest values
one_refuted logic nodes n clauses arguments rest premise i values size within made refuted = record {
  values_are = refuted.values_are;
  place = i;
  sets = clause_at clauses i;
  is = slice_get-get_or clauses i [] within;
  premise = premise;
  made = λ k w l. ap (λ xs. marks xs k w) made ∙ marks-added_all n (zip arguments (clause_at clauses i)) rest k w (subst (λ (s : ℕ). w < s) size l);
  fails = refuted.fails;
}
