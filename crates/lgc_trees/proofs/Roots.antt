-- The derivation of a goal, from the lines that were appended for it.
use Rattle.std.proofs.Common.{◌≡◌, ℕ, ◌-◌, ◌<◌, ◌≤◌, true, List, [], length, map, Some, refl, sym, ap, subst, arith}
use Rattle.std.specs.Prelude.{Option, None, All, IsPermutation}
use Rattle.std.proofs.lemmas.List.{length-take}
use Rattle.std.proofs.lemmas.List.Elements.{All-nil, All-map, All-weaker}
use Rattle.std.proofs.lemmas.List.Sorted.{sum_by-IsPermutation}
use Rattle.lgc_values.specs.Logic.{Logic}
use Rattle.lgc_clauses.specs.Rules.{OperatorRule, PlainRule, of_operator}
use Rattle.lgc_syntax.specs.Sizes as syntax
use Rattle.lgc_calculus.specs.RuleBook.{IsRightBook}
use Rattle.lgc_sequents.specs.Signed.{SignedFormula}
use Rattle.lgc_sequents.specs.Sequents.{IsSequent, is_included}
use Rattle.lgc_sequents.specs.Lines.{PlainLine, at_position, IsPosition, sequent_at, premises_of}
use Rattle.lgc_sequents.specs.Lines.{formulas_of as formulas_of_line}
use Rattle.lgc_sequents.specs.Steps.{premise_at, IsReasonFor, AreSteps}
use Rattle.lgc_sequents.specs.declared.line.Cited.{Cited}
use Rattle.lgc_sequents.specs.declared.line.Reason.{Reason}
use Rattle.lgc_sequents.specs.declared.line.Reason.TheVariants.{Axiom, Pending, ByRule, Resolve}
use Rattle.lgc_sequents.proofs.StepLaws.{at_position_within, operator_step_grown}
use Rattle.lgc_sequents.proofs.RestLaws.{All-at_position}
use Rattle.lgc_derivations.specs.Derivations.{Tree}
use Rattle.lgc_sequents.specs.Everywhere.{IsTrueEverywhere}
use Rattle.lgc_decision.specs.Decided.{AreSubformulasOf}
use Rattle.lgc_proofs.specs.Reasons.{IsPlainReason}
use Rattle.lgc_proofs.specs.Found.{operators, CitesLighter, AreAppended, IsProvedAt}
use Rattle.lgc_proofs.proofs.Appending.{own_subformulas}
use Rattle.lgc_proofs.proofs.LineSteps.{axiom_grown, included_in_any_order}
use Rattle.lgc_trees.specs.Outcome.{IsDerivationOf}
use Rattle.lgc_trees.specs.Unfolded.{reason_of, reason_at, lines_before, AreInOrder, IsUnfolded}
use Rattle.lgc_trees.proofs.UnfoldingLaws.{step_there, own_reason, operator_rule_at}

-- ---- the order of steps

-- what stands before a position has an earlier one
cites_before : (n : ℕ) (rules : List PlainRule) (before : List PlainLine) (conclusion : List SignedFormula) (position : ℕ) → length before < position → (why : Reason) → IsReasonFor n rules before conclusion why → All (λ cited. (1 ≤ cited) × (cited < position)) (map (λ premise. premise.line) (premises_of why))
cites_before n rules before conclusion position fewer Axiom holds = All-nil (λ cited. (1 ≤ cited) × (cited < position))
cites_before n rules before conclusion position fewer Pending holds = All-nil (λ cited. (1 ≤ cited) × (cited < position))
cites_before n rules before conclusion position fewer (ByRule k p premises) holds =
    All-map (λ cited. (1 ≤ cited) × (cited < position)) (λ premise. premise.line) premises
    (All-weaker (λ (premise : Cited). IsPosition before premise.line) (λ (premise : Cited). (1 ≤ premise.line) × (premise.line < position)) (λ premise is. (is.0, omega (arith, is.1, fewer))) premises holds.earlier)
cites_before n rules before conclusion position fewer (Resolve f left right) holds = All-nil (λ cited. (1 ≤ cited) × (cited < position))

module _ (n : ℕ) (rules : List PlainRule) (lines : List PlainLine) (steps : AreSteps n rules [] lines) (plain : All (λ line. IsPlainReason line.reason) lines) (position : ℕ) where
  plain_at : (found : Option PlainLine) → at_position lines position ≡ found → IsPlainReason (reason_of found)
  plain_at None is = tt
  plain_at (Some line) is = All-at_position (λ (l : PlainLine). IsPlainReason l.reason) lines position line plain is

  earlier_at : (found : Option PlainLine) → at_position lines position ≡ found → All (λ cited. (1 ≤ cited) × (cited < position)) (map (λ premise. premise.line) (premises_of (reason_of found)))
  earlier_at None is = All-nil (λ cited. (1 ≤ cited) × (cited < position))
  earlier_at (Some line) is =
      let stands = at_position_within lines position line is in
      let count = length-take (position - 1) lines in
      cites_before n rules (lines_before lines position) line.sequent position (omega (arith, stands.0, count)) line.reason (step_there n rules lines steps position line is)

pub in_order : (n : ℕ) (rules : List PlainRule) (lines : List PlainLine) → AreSteps n rules [] lines → All (λ line. IsPlainReason line.reason) lines → AreInOrder lines
in_order n rules lines steps plain = record {
  plain = λ position. plain_at n rules lines steps plain position (at_position lines position) refl;
  earlier = λ position. earlier_at n rules lines steps plain position (at_position lines position) refl;
}

-- ---- the goal

-- a reason holds of a sequent that includes one of which it holds
reason_grown : (n : ℕ) (rules : List OperatorRule) (before : List PlainLine) (items others : List SignedFormula) → 0 < n → is_included items others ≡ true → (why : Reason) → IsPlainReason why → IsReasonFor n (map of_operator rules) before items why → IsReasonFor n (map of_operator rules) before others why
reason_grown n rules before items others some included Axiom plain holds = axiom_grown n items others some included holds
reason_grown n rules before items others some included Pending plain holds = absurd plain
reason_grown n rules before items others some included (ByRule k p premises) plain holds =
    let rule = operator_rule_at rules k holds.rule holds.stands in
    record {
      rule = holds.rule;
      stands = holds.stands;
      earlier = holds.earlier;
      step = operator_step_grown holds.rule rule.0.op p items others (map (premise_at before) premises) (sym (ap (λ (r : PlainRule). r.head) rule.2)) included holds.step;
    }
reason_grown n rules before items others some included (Resolve f left right) plain holds = absurd plain

module _ (logic : Logic) (rules : List OperatorRule) (right : IsRightBook logic rules) (goal : List SignedFormula) (sequent : IsSequent logic.size goal) (lines : List PlainLine) (appended : AreAppended logic rules goal [] lines) where
  steps : AreSteps logic.size (map of_operator rules) [] lines
  steps = subst (AreSteps logic.size (map of_operator rules) []) (sym appended.is) appended.steps

  pub lines_in_order : AreInOrder lines
  lines_in_order = in_order logic.size (map of_operator rules) lines steps (subst (λ (all : List PlainLine). All (λ (line : PlainLine). IsPlainReason line.reason) all) (sym appended.is) appended.plain)

  pub derivation_of_goal : (position : ℕ) → IsProvedAt logic lines goal position → (d : Tree) → IsUnfolded logic.size lines position goal d → IsDerivationOf logic rules goal d × IsTrueEverywhere logic goal
  derivation_of_goal position proved d unfolded =
      let same : IsPermutation (sequent_at lines position) goal = proved.line.same in
      let low = sequent.sized.low in
      let holds = reason_grown logic.size rules (lines_before lines position) (sequent_at lines position) goal (omega (arith, low)) (included_in_any_order logic.size (sequent_at lines position) goal sequent same) (reason_at lines position) (lines_in_order.plain position)
      (own_reason logic.size (map of_operator rules) lines steps position proved.line.stands) in
      let parts = subst (λ (all : List PlainLine). All (λ (line : PlainLine). AreSubformulasOf goal (formulas_of_line line)) all) (sym appended.is) appended.parts in
      let lighter = subst (λ (all : List PlainLine). All (CitesLighter lines) all) (sym appended.is) appended.lighter in
      let short = unfolded.short rules right.signs steps lighter in
      let count : operators goal ≡ operators (sequent_at lines position) = sum_by-IsPermutation (λ (item : SignedFormula). syntax.operators item.formula) (sequent_at lines position) goal same in (
        record {
          concludes = unfolded.concludes;
          right = unfolded.right rules steps holds;
          parts = unfolded.parts goal parts (own_subformulas goal);
          short = omega (arith, short, count);
        },
        proved.holds,
      )
