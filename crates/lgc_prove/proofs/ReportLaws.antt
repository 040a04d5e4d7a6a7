-- The report of claims and of the lines with their rules, numbered in the order of their first use, answers the queries.
use Rattle.std.proofs.Common.{◌≡◌, ◌≢◌, ℕ, zero, suc, ◌<◌, true, List, [], ◌∷◌, ◌++◌, length, map, get_or, slice_get, refl, sym, ◌∙◌, ap, subst, arith}
use Rattle.std.specs.List.{All, AllPairs, AllZip, Any, Contains, range_with_len}
use Rattle.std.proofs.lemmas.List.{length-map, get_or-map}
use Rattle.std.proofs.lemmas.List.Elements.{All-nil, All-cons, All-map, All-weaker, All-contains}
use Rattle.lgc_values.specs.Logic.{Logic}
use Rattle.lgc_clauses.specs.Rules.{operator, PlainRule, OperatorRule, of_operator}
use Rattle.lgc_calculus.specs.Calculus.{IsRightRule}
use Rattle.lgc_syntax.specs.declared.formula.Formula.{Formula}
use Rattle.lgc_syntax.specs.Fits.{Fits}
use Rattle.lgc_syntax.specs.Subformulas.{IsSubformula}
use Rattle.lgc_syntax.specs.Variables.{has_no_bound}
use Rattle.lgc_syntax.proofs.SubformulaLaws.{fits_subformula}
use Rattle.lgc_meaning.specs.declared.query.Query.{Query}
use Rattle.lgc_meaning.specs.Queries as queries
use Rattle.lgc_sequents.specs.Signed.{SignedFormula}
use Rattle.lgc_sequents.specs.Lines.{PlainLine, sequent_of, IsPosition, sequent_at, named_by, formulas_of, premises_of, FitsLine}
use Rattle.lgc_sequents.specs.Steps.{IsPremise, premise_at, IsReasonFor, AreSteps}
use Rattle.lgc_sequents.specs.declared.line.Cited.{Cited}
use Rattle.lgc_sequents.specs.declared.line.Reason.{Reason}
use Rattle.lgc_sequents.specs.declared.line.Reason.TheVariants.{Axiom, Pending, ByRule, Resolve}
use Rattle.lgc_sequents.proofs.RestLaws.{All-at_position}
use Rattle.lgc_report.specs.Reports.{PlainNumbered, PlainClaim}
use Rattle.lgc_report.specs.Valid.{ArePositions}
use Rattle.lgc_proofs.specs.Alike.{AreAlike}
use Rattle.lgc_proofs.specs.Proofs.{AreDistinct}
use Rattle.lgc_proofs.specs.Reasons.{IsPlainReason}
use Rattle.lgc_queries.specs.Asked.{IsAsked}
use Rattle.lgc_prove.specs.Answers.{IsPartOf, AnswersQueries}
use Rattle.lgc_prove.specs.ByUse.{renumbered_reason, renumbered, IsByUse}
use Rattle.lgc_prove.specs.Work.{ArePartsOf, AreAnswers}
use Rattle.lgc_prove.proofs.LineLaws.{some_of_all}
use Rattle.lgc_prove.proofs.ClaimLaws.{claims_over}

-- ---- lines with other numbers for their rules

module _ (number : ℕ → ℕ) where
  named_by-renumbered : (reason : Reason) → named_by (renumbered_reason number reason) ≡ named_by reason
  named_by-renumbered Axiom = refl
  named_by-renumbered Pending = refl
  named_by-renumbered (ByRule rule principal premises) = refl
  named_by-renumbered (Resolve f left right) = refl

  premises_of-renumbered : (reason : Reason) → premises_of (renumbered_reason number reason) ≡ premises_of reason
  premises_of-renumbered Axiom = refl
  premises_of-renumbered Pending = refl
  premises_of-renumbered (ByRule rule principal premises) = refl
  premises_of-renumbered (Resolve f left right) = refl

  plain-renumbered : (reason : Reason) → IsPlainReason reason → IsPlainReason (renumbered_reason number reason)
  plain-renumbered Axiom plain = plain
  plain-renumbered Pending plain = plain
  plain-renumbered (ByRule rule principal premises) plain = plain
  plain-renumbered (Resolve f left right) plain = plain

  formulas_of-renumbered : (line : PlainLine) → formulas_of (renumbered number line) ≡ formulas_of line
  formulas_of-renumbered line = ap (λ named. map (λ (item : SignedFormula). item.formula) line.sequent ++ named) (named_by-renumbered line.reason)

  at-renumbered : (lines : List PlainLine) (position : ℕ) → IsPosition lines position → IsPosition (map (renumbered number) lines) position × (sequent_at (map (renumbered number) lines) position ≡ sequent_at lines position)
  at-renumbered lines position stands = ((stands.0, omega (arith, stands.1, length-map lines (renumbered number))), same lines position) where
    same_get : (lines : List PlainLine) (k : ℕ) → sequent_of (slice_get (map (renumbered number) lines) k) ≡ sequent_of (slice_get lines k)
    same_get [] k = refl
    same_get (line ∷ lines) zero = refl
    same_get (line ∷ lines) (suc k) = same_get lines k

    same : (lines : List PlainLine) (position : ℕ) → sequent_at (map (renumbered number) lines) position ≡ sequent_at lines position
    same lines zero = refl
    same lines (suc k) = same_get lines k

  numbers-renumbered : (lines : List PlainLine) → map (λ (line : PlainLine). line.number) (map (renumbered number) lines) ≡ map (λ (line : PlainLine). line.number) lines
  numbers-renumbered [] = refl
  numbers-renumbered (line ∷ lines) = ap (λ numbers. line.number ∷ numbers) (numbers-renumbered lines)

  differ-renumbered : (lines : List PlainLine) → AllPairs (λ a b. AreAlike a.sequent b.sequent → ⊥) lines → AllPairs (λ a b. AreAlike a.sequent b.sequent → ⊥) (map (renumbered number) lines)
  differ-renumbered lines differ i j d before within alike =
      let inside : j < length lines = omega (arith, within, length-map lines (renumbered number)) in
      let first = ap (λ (line : PlainLine). line.sequent) (get_or-map (renumbered number) lines i d d (omega (arith, before, inside))) in
      let later = ap (λ (line : PlainLine). line.sequent) (get_or-map (renumbered number) lines j d d inside) in
      differ i j d before inside (subst (λ s. AreAlike s (get_or lines j d).sequent) first (subst (AreAlike (get_or (map (renumbered number) lines) i d).sequent) later alike))

-- ---- the terms of cited lines: a step by an operator's rule has none

abbrev HasClosedTerms : Cited → Type 0
HasClosedTerms cited = All (λ t. has_no_bound t ≡ true) cited.terms

no_terms_cited : (op : ℕ) (principal : Formula) (conclusion : List SignedFormula) (before : List PlainLine) (clauses : List (List (List ℕ))) (premises : List Cited) → AllZip (IsPremise (operator op) principal conclusion) clauses (map (premise_at before) premises)
    → All HasClosedTerms premises
no_terms_cited op principal conclusion before clauses [] each = All-nil HasClosedTerms
no_terms_cited op principal conclusion before [] (cited ∷ premises) each = absurd each
no_terms_cited op principal conclusion before (sets ∷ clauses) (cited ∷ premises) each =
    let none : length cited.terms ≡ 0 = each.0.terms in
    All-cons HasClosedTerms cited premises (λ i d lt. absurd (omega (arith, lt, none))) (no_terms_cited op principal conclusion before clauses premises each.1)

module _ (n : ℕ) (rules : List OperatorRule) where
  terms_of_reason : (before : List PlainLine) (conclusion : List SignedFormula) (reason : Reason) → IsReasonFor n (map of_operator rules) before conclusion reason → All HasClosedTerms (premises_of reason)
  terms_of_reason before conclusion Axiom holds = All-nil HasClosedTerms
  terms_of_reason before conclusion Pending holds = All-nil HasClosedTerms
  terms_of_reason before conclusion (Resolve f left right) holds = All-nil HasClosedTerms
  terms_of_reason before conclusion (ByRule position principal premises) holds =
      let IsOperators : PlainRule → Type 0 = λ rule. (op : ℕ) × (rule.head ≡ operator op) in
      let head = All-at_position IsOperators (map of_operator rules) position holds.rule (All-map IsOperators of_operator rules (λ i d lt. ((get_or rules i d).op, refl))) holds.stands in
      no_terms_cited head.0 principal conclusion before holds.rule.clauses premises (subst (λ h. AllZip (IsPremise h principal conclusion) holds.rule.clauses (map (premise_at before) premises)) head.1 holds.step.each)

  terms_of_lines : (before lines : List PlainLine) → AreSteps n (map of_operator rules) before lines → All (λ (line : PlainLine). All HasClosedTerms (premises_of line.reason)) lines
  terms_of_lines before [] are = All-nil (λ (line : PlainLine). All HasClosedTerms (premises_of line.reason))
  terms_of_lines before (line ∷ lines) are = All-cons (λ (line : PlainLine). All HasClosedTerms (premises_of line.reason)) line lines (terms_of_reason before line.sequent line.reason are.0) (terms_of_lines (before ++ line ∷ []) lines are.1)

-- ---- lines of the logic

-- the parts of queries of the logic are formulas of it
part_fits : (logic : Logic) (asked : List Query) → All (IsAsked logic) asked → (f : Formula) → IsPartOf asked f → Fits logic f
part_fits logic asked all f part =
    let query = some_of_all (IsAsked logic) (λ (query : Query). Any (λ g. IsSubformula f g) (queries.formulas_of query)) asked all part in
    let is = query.1 in
    let Known : Formula → Type 0 = λ g. IsSubformula f g → Fits logic f in
    let known : All Known (queries.formulas_of query.0) = λ i d lt part. fits_subformula logic f (get_or (queries.formulas_of query.0) i d) part (is.propositional i d lt) (is.writable.query_for.fits.formulas i d lt) in
    let found = some_of_all Known (λ g. IsSubformula f g) (queries.formulas_of query.0) known query.2 in
    found.1 found.2

-- ---- the report

module _ (logic : Logic) (n : ℕ) (sized : logic.size ≡ n) (asked : List Query) (all_asked : All (IsAsked logic) asked) (rules : List OperatorRule) (old : List PlainLine) (claims : List PlainClaim) (are : AreAnswers logic rules asked old claims) (distinct : AreDistinct old)
    (used : List PlainNumbered) (new : List PlainLine) (by : IsByUse n rules old used new) where
  right_used : All (λ (numbered : PlainNumbered). IsRightRule logic numbered.rule) used
  right_used = All-weaker (λ (numbered : PlainNumbered). Contains (map of_operator rules) numbered.rule) (λ (numbered : PlainNumbered). IsRightRule logic numbered.rule)
      (λ numbered among. All-contains (IsRightRule logic) (map of_operator rules) numbered.rule (All-map (IsRightRule logic) of_operator rules are.lines_by.right.right) among) used by.among

  signs_used : All (λ (numbered : PlainNumbered). numbered.rule.sign ≢ []) used
  signs_used = All-weaker (λ (numbered : PlainNumbered). Contains (map of_operator rules) numbered.rule) (λ (numbered : PlainNumbered). numbered.rule.sign ≢ [])
      (λ numbered among. All-contains (λ (rule : PlainRule). rule.sign ≢ []) (map of_operator rules) numbered.rule (All-map (λ (rule : PlainRule). rule.sign ≢ []) of_operator rules (λ i d lt. (are.lines_by.right.signs i d lt).nonempty)) among) used by.among

  -- a fact of each line that other numbers keep
  each_line : (P Q : PlainLine → Type 0) → ((line : PlainLine) → P line → Q (renumbered by.number line)) → All P old → All Q new
  each_line P Q kept all = subst (All Q) (sym by.same) (All-map Q (renumbered by.number) old (All-weaker P (λ line. Q (renumbered by.number line)) kept old all))

  plain_lines : All (λ (line : PlainLine). IsPlainReason line.reason) new
  plain_lines = each_line (λ line. IsPlainReason line.reason) (λ line. IsPlainReason line.reason) (λ line. plain-renumbered by.number line.reason) are.lines_by.plain

  parts_of_lines : ArePartsOf asked new
  parts_of_lines = each_line (λ line. All (IsPartOf asked) (formulas_of line)) (λ line. All (IsPartOf asked) (formulas_of line)) (λ line. subst (All (IsPartOf asked)) (sym (formulas_of-renumbered by.number line))) are.parts

  lines_fit : All (FitsLine logic) new
  lines_fit =
      let closed = each_line (λ line. All HasClosedTerms (premises_of line.reason)) (λ line. All HasClosedTerms (premises_of line.reason))
      (λ line. subst (All HasClosedTerms) (sym (premises_of-renumbered by.number line.reason)))
      (terms_of_lines logic.size rules [] old are.lines_by.steps) in
      λ i d lt. record { formulas = All-weaker (IsPartOf asked) (Fits logic) (part_fits logic asked all_asked) (formulas_of (get_or new i d)) (parts_of_lines i d lt); terms = closed i d lt }

  same_sequents : (position : ℕ) → IsPosition old position → IsPosition new position × (sequent_at new position ≡ sequent_at old position)
  same_sequents position stands = subst (λ lines. IsPosition lines position × (sequent_at lines position ≡ sequent_at old position)) (sym by.same) (at-renumbered by.number old position stands)

  numbers_of_lines : ArePositions (map (λ (line : PlainLine). line.number) new)
  numbers_of_lines =
      let same : map (λ (line : PlainLine). line.number) new ≡ map (λ (line : PlainLine). line.number) old = ap (map (λ (line : PlainLine). line.number)) by.same ∙ numbers-renumbered by.number old in
      subst ArePositions (sym same) (distinct.numbers ∙ ap (range_with_len 1) (sym (length-map old (λ (line : PlainLine). line.number))))

  pub report_answers : AnswersQueries logic asked (record { rules = used; lines = new; claims = claims })
  report_answers = record {
    fits = record { rules = λ i d lt. record { fits = (right_used i d lt).fits; signed = signs_used i d lt }; lines = lines_fit; claims = are.fit };
    valid = record {
      rule_numbers = by.positions;
      line_numbers = numbers_of_lines;
      claim_numbers = are.numbers;
      exact = λ i d lt. (right_used i d lt).exact;
      steps = subst (λ k. AreSteps k (map (λ (numbered : PlainNumbered). numbered.rule) used) [] new) (sym sized) by.steps;
      claims = claims_over logic old new same_sequents plain_lines asked claims are.answers are.follow;
    };
    claims = are.answers;
    irredundant = λ i d lt. (right_used i d lt).irredundant;
    by_use = by.by_use;
    plain = plain_lines;
    parts = parts_of_lines;
    differ = subst (AllPairs (λ a b. AreAlike a.sequent b.sequent → ⊥)) (sym by.same) (differ-renumbered by.number old distinct.differ);
  }
