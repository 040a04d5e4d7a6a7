-- Each line that doesn't rest on a pending one holds in every structure.
use Rattle.std.proofs.Common.{◌≡◌, ◌≢◌, ℕ, zero, suc, ◌<◌, ◌≤◌, List, [], ◌∷◌, ◌++◌, ◌⊎◌, inl, inr, true, map, length, get_or, refl, sym, ap, subst, arith, ⊎_elim, append-nil, append_assoc}
use Rattle.std.specs.Prelude.{None, Some, slice_get}
use Rattle.std.specs.List.{All, Contains}
use Rattle.std.proofs.lemmas.List.{length-map, get_or-map}
use Rattle.std.proofs.lemmas.List.Elements.{All-head, All-tail, All-nil, All-push, All-map, Contains-get_or}
use Rattle.std.proofs.lemmas.Option.{slice_get_cases}
use Rattle.lgc_values.specs.Logic.{Logic, IsLogic}
use Rattle.lgc_clauses.specs.Rules as clauses
use Rattle.lgc_clauses.specs.Rules.{PlainRule}
use Rattle.lgc_clauses.specs.Exactness.{IsExact}
use Rattle.lgc_syntax.specs.Fits.{Fits}
use Rattle.lgc_syntax.specs.Variables.{has_no_bound}
use Rattle.lgc_syntax.specs.Structures.{Structure, IsStructure, value_in}
use Rattle.lgc_goals.proofs.TruthValues.{HasValues-value_in}
use Rattle.lgc_sequents.specs.Signed.{SignedFormula}
use Rattle.lgc_sequents.specs.Sequents.{IsSequent}
use Rattle.lgc_sequents.specs.Lines.{PlainLine, at_position, IsPosition, sequent_of, sequent_at, named_by, premises_of, FitsLine}
use Rattle.lgc_sequents.specs.declared.line.Cited.{Cited}
use Rattle.lgc_sequents.specs.declared.line.Reason.{Reason}
use Rattle.lgc_sequents.specs.declared.line.Reason.TheVariants.{Axiom, Pending, ByRule, Resolve}
use Rattle.lgc_sequents.specs.Steps.{premise_at, IsReasonFor, IsStep, AreSteps}
use Rattle.lgc_sequents.specs.Rests.{cited_by, on_itself, on_cited, IsPendingBased}
use Rattle.lgc_sequents.proofs.Laws.{is_true_at-axiom}
use Rattle.lgc_sequents.proofs.RestLaws.{All-at_position, pending_based_kept}
use Rattle.lgc_meaning.proofs.Parts.{All-right}
use Rattle.lgc_soundness.specs.Soundness.{HoldsIn}
use Rattle.lgc_soundness.proofs.RuleSteps.{IsUsable, rule_step_holds}
use Rattle.lgc_soundness.proofs.Resolvents.{resolvent_true}

-- ---- positions

-- something stands at a position
pub stands_at : {X : Type 0} (xs : List X) (position : ℕ) → IsPosition xs position → (x : X) × (at_position xs position ≡ Some x)
stands_at xs zero is = absurd (omega (arith, is.0))
stands_at {X} xs (suc k) is = ⊎_elim
    (λ (found : (x : X) × (k < length xs) × (slice_get xs k ≡ Some x) × (get_or xs k x ≡ x)). (found.0, found.2))
    (λ (past : (length xs ≤ k) × (slice_get xs k ≡ None)). absurd (omega (arith, past.0, is.1)))
    (slice_get_cases xs k).1

-- what stands in a list with one more item stands in the list, or is that item
last_or_before : {X : Type 0} (xs : List X) (y : X) (k : ℕ) (x : X) → slice_get (xs ++ y ∷ []) k ≡ Some x → (slice_get xs k ≡ Some x) ⊎ ((k ≡ length xs) × (y ≡ x))
last_or_before [] y zero x is = inr (refl, cc)
last_or_before [] y (suc k) x is = cc
last_or_before (z ∷ xs) y zero x is = inl is
last_or_before (z ∷ xs) y (suc k) x is = ⊎_elim
    (λ (before : slice_get xs k ≡ Some x). inl before)
    (λ (last : (k ≡ length xs) × (y ≡ x)). inr (ap suc last.0, last.1))
    (last_or_before xs y k x is)

-- an item that is put behind a list stands there
position_of_last : {X : Type 0} (xs : List X) (y : X) → slice_get (xs ++ y ∷ []) (length xs) ≡ Some y
position_of_last [] y = refl
position_of_last (x ∷ xs) y = position_of_last xs y

-- ---- lines

module _ (logic : Logic) (M : Structure) where
  -- each line that doesn't rest on a pending one holds in the structure
  abbrev pub LinesHold : List PlainLine → Type 0
  LinesHold lines = (position : ℕ) (line : PlainLine) → at_position lines position ≡ Some line → (IsPendingBased lines position → ⊥) → HoldsIn logic M line.sequent

  -- so each sequent holds that stands there
  pub sequent_holds : (lines : List PlainLine) (position : ℕ) → LinesHold lines → IsPosition lines position → (IsPendingBased lines position → ⊥) → HoldsIn logic M (sequent_at lines position)
  sequent_holds lines position hold is settled = let line = stands_at lines position is in subst (λ found. HoldsIn logic M (sequent_of found)) (sym line.1) (hold position line.0 line.1 settled)

module _ (logic : Logic) (is : IsLogic logic) (M : Structure) (structure : IsStructure logic M) (rules : List PlainRule) (fit : All (clauses.Fits logic) rules) (signed : All (λ rule. rule.sign ≢ []) rules)
    (exact : All (IsExact logic) rules) where
  -- lines that are there, which are sequents
  module _ (before : List PlainLine) (sequents : All (λ l. IsSequent logic.size l.sequent) before) where
    -- what stands at a position among them is one
    sequent_there : (position : ℕ) → IsPosition before position → IsSequent logic.size (sequent_at before position)
    sequent_there position stands =
        let there = stands_at before position stands in
        subst (λ found. IsSequent logic.size (sequent_of found)) (sym there.1) (All-at_position (λ (l : PlainLine). IsSequent logic.size l.sequent) before position there.0 sequents there.1)

    -- a sequent holds by a reason where the lines do that the reason cites
    reason_holds : (conclusion : List SignedFormula) (reason : Reason) → IsReasonFor logic.size rules before conclusion reason → (reason ≡ Pending → ⊥) → All (Fits logic) (named_by reason)
        → All (λ cited. All (λ t. has_no_bound t ≡ true) cited.terms) (premises_of reason)
        → ((position : ℕ) → IsPosition before position → Contains (cited_by reason) position → HoldsIn logic M (sequent_at before position)) → HoldsIn logic M conclusion
    reason_holds conclusion Axiom step settled named terms hold = λ s assignment. is_true_at-axiom (λ f. value_in logic M s f []) logic.size conclusion (HasValues-value_in logic is M s [] structure) step
    reason_holds conclusion Pending step settled named terms hold = absurd (settled refl)
    reason_holds conclusion (ByRule number principal premises) step settled named terms hold =
        rule_step_holds logic is M structure step.rule principal conclusion (map (premise_at before) premises)
        (All-at_position (clauses.Fits logic) rules number step.rule fit step.stands)
        (All-at_position (λ (rule : PlainRule). rule.sign ≢ []) rules number step.rule signed step.stands)
        (All-at_position (IsExact logic) rules number step.rule exact step.stands)
        (All-head (Fits logic) principal [] named) step.step
        (All-map (IsUsable logic is M structure) (premise_at before) premises (λ i d lt. (hold (get_or premises i d).line (step.earlier i d lt) (cites i d lt), terms i d lt)))
      where
        cites : (i : ℕ) (d : Cited) → i < length premises → Contains (map (λ cited. cited.line) premises) (get_or premises i d).line
        cites i d lt =
            subst (Contains (map (λ (cited : Cited). cited.line) premises)) (get_or-map (λ (cited : Cited). cited.line) premises i d 0 lt)
            (Contains-get_or (map (λ (cited : Cited). cited.line) premises) i 0 (omega (arith, lt, length-map premises (λ (cited : Cited). cited.line))))
    reason_holds conclusion (Resolve f left right) step settled named terms hold = λ s assignment.
        resolvent_true (λ g. value_in logic M s g []) f (sequent_at before left) (sequent_at before right) conclusion step.step
        (sequent_there left step.left_earlier).distinct (sequent_there right step.right_earlier).distinct
        (hold left step.left_earlier (0, omega arith, refl) s assignment) (hold right step.right_earlier (1, omega arith, refl) s assignment)

    -- a line behind them, where they hold
    module _ (line : PlainLine) (step : IsStep logic.size rules before line) (fits : FitsLine logic line) (hold : LinesHold logic M before) where
      abbrev last : ℕ
      last = suc (length before)

      -- it rests on a pending line where one does that it cites
      rests_by : (earlier : ℕ) → IsPosition before earlier → Contains (cited_by line.reason) earlier → IsPendingBased before earlier → IsPendingBased (before ++ line ∷ []) last
      rests_by earlier stands cites based =
          let kept = pending_based_kept before (line ∷ []) earlier based in
          record {
            other = kept.other;
            line = kept.line;
            rests = on_cited last earlier kept.other line (position_of_last before line) cites (omega (arith, stands.1)) kept.rests;
            stands = kept.stands;
            pending = kept.pending;
          }

      -- it holds, unless it rests on one
      line_holds : (IsPendingBased (before ++ line ∷ []) last → ⊥) → HoldsIn logic M line.sequent
      line_holds settled =
          reason_holds line.sequent line.reason step
          (λ pending. settled (record { other = last; line = line; rests = on_itself last; stands = position_of_last before line; pending = pending }))
          (All-right (Fits logic) (map (λ item. item.formula) line.sequent) (named_by line.reason) fits.formulas) fits.terms
          (λ earlier stands cites. sequent_holds logic M before earlier hold stands (λ based. settled (rests_by earlier stands cites based)))

      -- so all of them hold
      more_hold : LinesHold logic M (before ++ line ∷ [])
      more_hold zero l stands settled = cc
      more_hold (suc k) l stands settled = ⊎_elim
          (λ (earlier : slice_get before k ≡ Some l). hold (suc k) l earlier (λ based. settled (pending_based_kept before (line ∷ []) (suc k) based)))
          (λ (here : (k ≡ length before) × (line ≡ l)).
          subst (λ (l : PlainLine). HoldsIn logic M l.sequent) here.1 (line_holds (subst (λ j. IsPendingBased (before ++ line ∷ []) (suc j) → ⊥) here.0 settled)))
          (last_or_before before line k l stands)

  -- steps behind lines that hold
  steps_hold : (before lines : List PlainLine) → All (λ l. IsSequent logic.size l.sequent) before → LinesHold logic M before → AreSteps logic.size rules before lines → All (FitsLine logic) lines → All (λ l. IsSequent logic.size l.sequent) lines
      → LinesHold logic M (before ++ lines)
  steps_hold before [] sequents hold steps fits are = subst (LinesHold logic M) (sym (append-nil before)) hold
  steps_hold before (line ∷ lines) sequents hold steps fits are =
      subst (LinesHold logic M) (append_assoc before (line ∷ []) lines)
      (steps_hold (before ++ line ∷ []) lines
      (All-push (λ (l : PlainLine). IsSequent logic.size l.sequent) before line sequents (All-head (λ (l : PlainLine). IsSequent logic.size l.sequent) line lines are))
      (more_hold before sequents line steps.0 (All-head (FitsLine logic) line lines fits) hold)
      steps.1 (All-tail (FitsLine logic) line lines fits) (All-tail (λ (l : PlainLine). IsSequent logic.size l.sequent) line lines are))

  -- where there are no lines, nothing is to hold
  none_hold : LinesHold logic M []
  none_hold zero line stands settled = cc
  none_hold (suc k) line stands settled = cc

  -- lines that are steps by exact rules
  pub lines_hold : (lines : List PlainLine) → AreSteps logic.size rules [] lines → All (FitsLine logic) lines → All (λ l. IsSequent logic.size l.sequent) lines → LinesHold logic M lines
  lines_hold lines steps fits are = steps_hold [] lines (All-nil (λ (l : PlainLine). IsSequent logic.size l.sequent)) none_hold steps fits are
