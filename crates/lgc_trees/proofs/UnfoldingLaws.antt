-- Derivations that are unfolded from lines.
use Rattle.std.proofs.Common.{⊎_elim, ◌≡◌, ℕ, zero, suc, ◌+◌, ◌-◌, ◌<◌, ◌≤◌, List, [], ◌∷◌, ◌++◌, length, map, take, drop, get_or, slice_get, Some, refl, sym, ◌∙◌, ap, subst, arith}
use Rattle.std.specs.Prelude.{None, All}
use Rattle.std.specs.List.{AllZip, Any, flat_map}
use Rattle.std.proofs.lemmas.List.{take-append-drop, nil_from_length, length-map, get_or-map}
use Rattle.std.proofs.lemmas.List.Elements.{All-nil, All-cons, All-head, All-tail, All-append, All-weaker}
use Rattle.std.proofs.lemmas.Option.{slice_get_cases, slice_get_read}
use Rattle.lgc_clauses.specs.Rules.{operator, OperatorRule, PlainRule, of_operator}
use Rattle.lgc_syntax.specs.declared.formula.Formula.{Formula}
use Rattle.lgc_syntax.specs.Subformulas.{IsSubformula}
use Rattle.lgc_sequents.specs.Signed.{SignedFormula}
use Rattle.lgc_sequents.specs.Sequents.{IsSign}
use Rattle.lgc_sequents.specs.Lines.{PlainLine, at_position, IsPosition, sequent_of, sequent_at, premises_of, named_by}
use Rattle.lgc_sequents.specs.Lines.{formulas_of as formulas_of_line}
use Rattle.lgc_sequents.specs.Rests.{cited_by}
use Rattle.lgc_sequents.specs.Steps.{without_terms, IsPremise, IsRuleStep, premise_at, IsByRule, IsReasonFor, AreSteps}
use Rattle.lgc_sequents.specs.declared.line.Cited.{Cited}
use Rattle.lgc_sequents.specs.declared.line.Reason.{Reason}
use Rattle.lgc_sequents.specs.declared.line.Reason.TheVariants as reason
use Rattle.lgc_sequents.proofs.StepLaws.{at_position_within, sequent_at-append, step-at}
use Rattle.lgc_sequents.proofs.RestLaws.{All-at_position}
use Rattle.lgc_meaning.proofs.Parts.{All-left}
use Rattle.lgc_packed.proofs.ClauseLaws.{take_more}
use Rattle.lgc_derivations.specs.declared.derivation.Derivation.{Axiom, Step}
use Rattle.lgc_derivations.specs.Derivations.{Tree, conclusion_of, formulas_of, most_steps, IsRight, AreRight, right_axiom, right_step, none_right, more_right}
use Rattle.lgc_derivations.proofs.FlattenLaws.{conclusion-Axiom, conclusion-Step}
use Rattle.lgc_decision.specs.Decided.{AreSubformulasOf}
use Rattle.lgc_proofs.specs.Reasons.{IsPlainReason}
use Rattle.lgc_proofs.specs.Found.{operators, CitesLighter}
use Rattle.lgc_trees.specs.Unfolded.{reason_of, reason_at, premises_at, cited_at, lines_before, AreInOrder, IsUnfolded, AreUnfolded}
use Rattle.lgc_trees.proofs.Trees.{formulas-Axiom, formulas-Step, all_formulas, steps-Axiom, steps-Step, greatest_below}
use Rattle.lgc_trees.proofs.Compounds.{conclusion_has_operator}

-- ---- lines by their positions

-- a line that stands at an index stands at the next position
pub line_there : (lines : List PlainLine) (position : ℕ) (line : PlainLine) → 1 ≤ position → position ≤ length lines → line ≡ get_or lines (position - 1) line → at_position lines position ≡ Some line
line_there lines zero line counted within is = absurd (omega (arith, counted))
line_there lines (suc k) line counted within is =
    let down : suc k - 1 ≡ k = omega arith in
    slice_get_read lines (length lines) k line refl (omega (arith, within)) (subst (λ i. line ≡ get_or lines i line) down is)

something_there : (lines : List PlainLine) (position : ℕ) → IsPosition lines position → (line : PlainLine) × (at_position lines position ≡ Some line)
something_there lines zero is = absurd (omega (arith, is.0))
something_there lines (suc k) is = ⊎_elim
    (λ (found : (x : PlainLine) × (k < length lines) × (slice_get lines k ≡ Some x) × (get_or lines k x ≡ x)). (found.0, found.2))
    (λ (past : (length lines ≤ k) × (slice_get lines k ≡ None)). absurd (omega (arith, past.0, is.1)))
    (slice_get_cases lines k).1

-- the lines of steps have their reasons
pub step_there : (n : ℕ) (rules : List PlainRule) (lines : List PlainLine) → AreSteps n rules [] lines → (position : ℕ) (line : PlainLine) → at_position lines position ≡ Some line → IsReasonFor n rules (lines_before lines position) line.sequent line.reason
step_there n rules lines steps zero line there = cc
step_there n rules lines steps (suc k) line there =
    let down : suc k - 1 ≡ k = omega arith in
    subst (λ i. IsReasonFor n rules (take i lines) line.sequent line.reason) (sym down) (step-at n rules [] lines k line steps there)

pub own_reason : (n : ℕ) (rules : List PlainRule) (lines : List PlainLine) → AreSteps n rules [] lines → (position : ℕ) → IsPosition lines position → IsReasonFor n rules (lines_before lines position) (sequent_at lines position) (reason_at lines position)
own_reason n rules lines steps position is =
    let found = something_there lines position is in
    let line = found.0 in
    subst (λ o. IsReasonFor n rules (lines_before lines position) (sequent_of o) (reason_of o)) (sym found.1) (step_there n rules lines steps position line found.1)

-- the formulas of a line's sequent are among those of the line
own_parts : (lines : List PlainLine) (goal : List SignedFormula) → All (λ line. AreSubformulasOf goal (formulas_of_line line)) lines → (position : ℕ) → IsPosition lines position → AreSubformulasOf goal (map (λ item. item.formula) (sequent_at lines position))
own_parts lines goal all position is =
    let found = something_there lines position is in
    let line = found.0 in
    let parts : AreSubformulasOf goal (formulas_of_line line) = All-at_position (λ (l : PlainLine). AreSubformulasOf goal (formulas_of_line l)) lines position line all found.1 in
    subst (λ o. AreSubformulasOf goal (map (λ item. item.formula) (sequent_of o))) (sym found.1) (first_parts goal (map (λ item. item.formula) line.sequent) (named_by line.reason) parts)
  where
    first_parts : (g : List SignedFormula) (fs gs : List Formula) → AreSubformulasOf g (fs ++ gs) → AreSubformulasOf g fs
    first_parts g fs gs parts = All-left (λ f. Any (λ item. IsSubformula f item.formula) g) fs gs parts

-- ---- rules by their positions

rule_there : (rules : List OperatorRule) (k : ℕ) (rule : PlainRule) → slice_get (map of_operator rules) k ≡ Some rule → (r : OperatorRule) × (slice_get rules k ≡ Some r) × (of_operator r ≡ rule)
rule_there [] k rule is = cc
rule_there (r ∷ rules) zero rule is = let same : of_operator r ≡ rule = cc in (r, refl, same)
rule_there (r ∷ rules) (suc k) rule is = rule_there rules k rule is

-- the rule at a position is one of an operator
pub operator_rule_at : (rules : List OperatorRule) (position : ℕ) (rule : PlainRule) → at_position (map of_operator rules) position ≡ Some rule → (r : OperatorRule) × (at_position rules position ≡ Some r) × (of_operator r ≡ rule)
operator_rule_at rules zero rule is = cc
operator_rule_at rules (suc k) rule is = rule_there rules k rule is

-- ---- the derivations of cited lines
module _ (n : ℕ) (lines : List PlainLine) where
  -- A rule of an operator has premises without terms, so they are the conclusions of the derivations.
  premises_are : (op : ℕ) (principal : Formula) (conclusion : List SignedFormula) (before more : List PlainLine) → lines ≡ before ++ more → (clauses : List (List (List ℕ))) (premises : List Cited) (ds : List Tree)
      → AllZip (IsPremise (operator op) principal conclusion) clauses (map (premise_at before) premises) → All (λ cited. IsPosition before cited.line) premises → AreUnfolded n lines (map (λ cited. cited.line) premises) ds
      → map (premise_at before) premises ≡ map (λ d. without_terms (conclusion_of d)) ds
  premises_are op principal conclusion before more split clauses [] [] each earlier unfolded = refl
  premises_are op principal conclusion before more split clauses [] (d ∷ ds) each earlier unfolded = absurd unfolded
  premises_are op principal conclusion before more split clauses (c ∷ cs) [] each earlier unfolded = absurd unfolded
  premises_are op principal conclusion before more split [] (c ∷ cs) (d ∷ ds) each earlier unfolded = absurd each
  premises_are op principal conclusion before more split (sets ∷ clauses) (c ∷ cs) (d ∷ ds) each earlier unfolded =
      let here = All-head (λ (cited : Cited). IsPosition before cited.line) c cs earlier in
      let sequent : sequent_at before c.line ≡ conclusion_of d = sym (sequent_at-append before more c.line here) ∙ sym (ap (λ all. sequent_at all c.line) split) ∙ sym unfolded.0.concludes in
      let none : c.terms ≡ [] = nil_from_length c.terms each.0.terms in
      let first : premise_at before c ≡ without_terms (conclusion_of d) = ap (λ s. record { sequent = s; terms = c.terms }) sequent ∙ ap (λ terms. record { sequent = conclusion_of d; terms = terms }) none in
      ap (λ premise. premise ∷ map (premise_at before) cs) first
      ∙ ap (λ rest. without_terms (conclusion_of d) ∷ rest) (premises_are op principal conclusion before more split clauses cs ds each.1 (All-tail (λ (cited : Cited). IsPosition before cited.line) c cs earlier) unfolded.1)

  all_right : (rules : List OperatorRule) → AreSteps n (map of_operator rules) [] lines → (positions : List ℕ) (ds : List Tree) → All (IsPosition lines) positions → AreUnfolded n lines positions ds → AreRight n (map of_operator rules) ds
  all_right rules steps [] [] stand unfolded = none_right
  all_right rules steps [] (d ∷ ds) stand unfolded = absurd unfolded
  all_right rules steps (p ∷ ps) [] stand unfolded = absurd unfolded
  all_right rules steps (p ∷ ps) (d ∷ ds) stand unfolded =
      more_right d ds (unfolded.0.right rules steps (own_reason n (map of_operator rules) lines steps p (All-head (IsPosition lines) p ps stand))) (all_right rules steps ps ds (All-tail (IsPosition lines) p ps stand) unfolded.1)

  all_parts : (goal : List SignedFormula) → All (λ line. AreSubformulasOf goal (formulas_of_line line)) lines → (positions : List ℕ) (ds : List Tree) → All (IsPosition lines) positions → AreUnfolded n lines positions ds → All (λ d. AreSubformulasOf goal (formulas_of d)) ds
  all_parts goal all [] [] stand unfolded = All-nil (λ d. AreSubformulasOf goal (formulas_of d))
  all_parts goal all [] (d ∷ ds) stand unfolded = absurd unfolded
  all_parts goal all (p ∷ ps) [] stand unfolded = absurd unfolded
  all_parts goal all (p ∷ ps) (d ∷ ds) stand unfolded =
      All-cons (λ e. AreSubformulasOf goal (formulas_of e)) d ds (unfolded.0.parts goal all (own_parts lines goal all p (All-head (IsPosition lines) p ps stand))) (all_parts goal all ps ds (All-tail (IsPosition lines) p ps stand) unfolded.1)

  all_shorter : (rules : List OperatorRule) → All (λ rule. IsSign n rule.sign) rules → AreSteps n (map of_operator rules) [] lines → All (CitesLighter lines) lines → (most : ℕ) (positions : List ℕ) (ds : List Tree)
      → All (λ position. operators (sequent_at lines position) < most) positions → AreUnfolded n lines positions ds → All (λ d. most_steps d < most) ds
  all_shorter rules signs steps lighter most [] [] below unfolded = All-nil (λ d. most_steps d < most)
  all_shorter rules signs steps lighter most [] (d ∷ ds) below unfolded = absurd unfolded
  all_shorter rules signs steps lighter most (p ∷ ps) [] below unfolded = absurd unfolded
  all_shorter rules signs steps lighter most (p ∷ ps) (d ∷ ds) below unfolded =
      let here = All-head (λ position. operators (sequent_at lines position) < most) p ps below in
      let short = unfolded.0.short rules signs steps lighter in
      All-cons (λ e. most_steps e < most) d ds (omega (arith, here, short)) (all_shorter rules signs steps lighter most ps ds (All-tail (λ position. operators (sequent_at lines position) < most) p ps below) unfolded.1)

-- ---- the derivation of a line
module _ (n : ℕ) (lines : List PlainLine) (order : AreInOrder lines) (position : ℕ) (within : position ≤ length lines) (line : PlainLine) (there : at_position lines position ≡ Some line) (conclusion : List SignedFormula) where
  abbrev before : List PlainLine
  before = lines_before lines position

  pub axiom_unfolded : line.reason ≡ reason.Axiom → IsUnfolded n lines position conclusion (Axiom conclusion)
  axiom_unfolded is = record {
    concludes = conclusion-Axiom conclusion;
    right = λ rules steps holds. right_axiom conclusion (subst (IsReasonFor n (map of_operator rules) before conclusion) (ap reason_of there ∙ is) holds);
    parts = λ goal all own. subst (AreSubformulasOf goal) (sym (formulas-Axiom conclusion)) own;
    short = λ rules signs steps lighter. let none = steps-Axiom conclusion in omega (arith, none);
  }

  module _ (k : ℕ) (p : Formula) (premises : List Cited) (ds : List Tree) (is : line.reason ≡ reason.ByRule k p premises) (unfolded : AreUnfolded n lines (cited_at lines position) ds) where
    why : reason_at lines position ≡ reason.ByRule k p premises
    why = ap reason_of there ∙ is

    cited_are : cited_at lines position ≡ map (λ cited. cited.line) premises
    cited_are = ap (λ r. map (λ cited. cited.line) (premises_of r)) why

    stand : All (IsPosition lines) (cited_at lines position)
    stand = All-weaker (λ cited. (1 ≤ cited) × (cited < position)) (IsPosition lines) (λ cited earlier. (earlier.0, omega (arith, earlier.1, within))) (cited_at lines position) (order.earlier position)

    by_rule : (rules : List OperatorRule) (items : List SignedFormula) → IsReasonFor n (map of_operator rules) before items (reason_at lines position) → IsByRule (map of_operator rules) before items k p premises
    by_rule rules items holds = subst (IsReasonFor n (map of_operator rules) before items) why holds

    right : (rules : List OperatorRule) → AreSteps n (map of_operator rules) [] lines → IsReasonFor n (map of_operator rules) before conclusion (reason_at lines position) → IsRight n (map of_operator rules) (Step conclusion k p ds)
    right rules steps holds =
        let by = by_rule rules conclusion holds in
        let rule = operator_rule_at rules k by.rule by.stands in
        let each = subst (λ (r : PlainRule). AllZip (IsPremise r.head p conclusion) r.clauses (map (premise_at before) premises)) (sym rule.2) by.step.each in
        right_step conclusion k p ds by.rule by.stands
        (subst (IsRuleStep by.rule p conclusion) (premises_are n lines rule.0.op p conclusion before (drop (position - 1) lines) (sym (take-append-drop (position - 1) lines)) rule.0.clauses premises ds each by.earlier (subst (λ positions. AreUnfolded n lines positions ds) cited_are unfolded)) by.step)
        (all_right n lines rules steps (cited_at lines position) ds stand unfolded)

    short : (rules : List OperatorRule) → All (λ rule. IsSign n rule.sign) rules → AreSteps n (map of_operator rules) [] lines → All (CitesLighter lines) lines → most_steps (Step conclusion k p ds) ≤ operators (sequent_at lines position)
    short rules signs steps lighter =
        let by = by_rule rules (sequent_at lines position) (own_reason n (map of_operator rules) lines steps position (at_position_within lines position line there)) in
        let rule = operator_rule_at rules k by.rule by.stands in
        let sign = All-at_position (λ (r : OperatorRule). IsSign n r.sign) rules k rule.0 signs rule.1 in
        let some = conclusion_has_operator n rule.0 p (sequent_at lines position) (map (premise_at before) premises) sign (subst (λ (r : PlainRule). IsRuleStep r p (sequent_at lines position) (map (premise_at before) premises)) (sym rule.2) by.step) in
        let cites : All (λ cited. operators (sequent_at lines cited) < operators line.sequent) (cited_by line.reason) = All-at_position (CitesLighter lines) lines position line lighter there in
        let same : line.sequent ≡ sequent_at lines position = sym (ap sequent_of there) in
        let below = subst (λ positions. All (λ cited. operators (sequent_at lines cited) < operators (sequent_at lines position)) positions) (ap cited_by is ∙ sym cited_are)
        (subst (λ items. All (λ cited. operators (sequent_at lines cited) < operators items) (cited_by line.reason)) same cites) in
        let greatest = greatest_below (operators (sequent_at lines position)) ds some (all_shorter n lines rules signs steps lighter (operators (sequent_at lines position)) (cited_at lines position) ds below unfolded) in
        let count = steps-Step conclusion k p ds in
        omega (arith, greatest, count)

    pub step_unfolded : IsUnfolded n lines position conclusion (Step conclusion k p ds)
    step_unfolded = record {
      concludes = conclusion-Step conclusion k p ds;
      right = right;
      parts = λ goal all own.
          subst (AreSubformulasOf goal) (sym (formulas-Step conclusion k p ds))
          (All-append (λ f. Any (λ item. IsSubformula f item.formula) goal) (map (λ item. item.formula) conclusion) (flat_map (λ formulas. formulas) (map formulas_of ds)) own
          (all_formulas (λ f. Any (λ item. IsSubformula f item.formula) goal) ds (all_parts n lines goal all (cited_at lines position) ds stand unfolded)));
      short = short;
    }

-- ---- one derivation more

pub more_unfolded : (n : ℕ) (lines : List PlainLine) (positions : List ℕ) (i position : ℕ) (conclusion : List SignedFormula) (ds : List Tree) (d : Tree) → slice_get positions i ≡ Some position → conclusion ≡ sequent_at lines position
    → AreUnfolded n lines (take i positions) ds → IsUnfolded n lines position conclusion d → AreUnfolded n lines (take (i + 1) positions) (ds ++ d ∷ [])
more_unfolded n lines positions i position conclusion ds d there is are one =
    subst (λ ps. AreUnfolded n lines ps (ds ++ d ∷ [])) (sym (take_more positions i position there)) (zip_push (take i positions) ds are)
  where
    own : IsUnfolded n lines position (sequent_at lines position) d
    own = subst (λ items. IsUnfolded n lines position items d) is one

    zip_push : (ps : List ℕ) (es : List Tree) → AreUnfolded n lines ps es → AreUnfolded n lines (ps ++ position ∷ []) (es ++ d ∷ [])
    zip_push [] [] all = (own, tt)
    zip_push [] (e ∷ es) all = absurd all
    zip_push (p ∷ ps) [] all = absurd all
    zip_push (p ∷ ps) (e ∷ es) all = (all.0, zip_push ps es all.1)

-- ---- what a line cites

-- a premise that is read cites an earlier line
pub cited_earlier : (lines : List PlainLine) → AreInOrder lines → (position i : ℕ) (read : List Cited) (cited : Cited) → read ≡ premises_at lines position → i < length (premises_at lines position) → (1 ≤ (get_or read i cited).line) × ((get_or read i cited).line < position)
cited_earlier lines order position i read cited same there =
    let long = length-map (premises_at lines position) (λ (c : Cited). c.line) in
    subst (λ (all : List Cited). (1 ≤ (get_or all i cited).line) × ((get_or all i cited).line < position)) (sym same)
    (subst (λ k. (1 ≤ k) × (k < position)) (get_or-map (λ (c : Cited). c.line) (premises_at lines position) i cited cited.line there) (order.earlier position i cited.line (omega (arith, long, there))))

-- lines in order have the reasons of axioms and of rules alone
pub reason_is_plain : (lines : List PlainLine) → AreInOrder lines → (position : ℕ) (line : PlainLine) → at_position lines position ≡ Some line → (told : Reason) → line.reason ≡ told → IsPlainReason told
reason_is_plain lines order position line there told is = subst IsPlainReason (ap reason_of there ∙ is) (order.plain position)
