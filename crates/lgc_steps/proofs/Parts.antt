-- The tests of a line tell what is found of it, and a line is a step exactly where nothing is found.
use Rattle.std.proofs.Common.{◌≡◌, ℕ, zero, suc, ◌<◌, ◌≤◌, false, ◌&&◌, List, [], ◌∷◌, map, length, take, get_or, refl, sym, ap, subst, ◌∙◌, arith}
use Rattle.std.specs.Prelude.{◌-◌, slice_get, Option, Some, None, IsNone, ◌↔◌}
use Rattle.std.specs.Bool.{Decides}
use Rattle.std.specs.List.{All, AllZip, list_all}
use Rattle.std.proofs.lemmas.Bool.{and_parts, and_from, true≢false}
use Rattle.std.proofs.lemmas.Bool.Decides.{Decides-and, Decides-by_and, Decides-eqb}
use Rattle.lgc_values.specs.Values.{has}
use Rattle.lgc_clauses.specs.Rules.{Head, PlainRule}
use Rattle.lgc_clauses.specs.Kinds.{plain_rule}
use Rattle.lgc_clauses.specs.declared.rule.Numbered.{Numbered}
use Rattle.lgc_syntax.specs.declared.formula.Formula.{Formula}
use Rattle.lgc_sequents.specs.Signed.{SignedFormula}
use Rattle.lgc_sequents.specs.Sequents.{sign_in, is_included, is_axiom}
use Rattle.lgc_sequents.specs.Lines.{PlainLine, at_position, IsPosition, sequent_at}
use Rattle.lgc_sequents.specs.Steps.{is_compound_of, term_count, eigenvariable_count, Premise, IsPremise, IsRuleStep, IsResolvent, premise_at, without, common, IsByRule, IsReasonFor}
use Rattle.lgc_sequents.specs.declared.line.Cited.{Cited}
use Rattle.lgc_sequents.specs.declared.line.Reason.{Reason}
use Rattle.lgc_sequents.specs.declared.line.Reason.TheVariants.{Axiom, Pending, ByRule, Resolve}
use Rattle.lgc_sequents.proofs.StepLaws.{AllZip-weaker}
use Rattle.lgc_steps.specs.declared.fault.StepFault.{StepFault}
use Rattle.lgc_steps.specs.StepFaults.{plain_rules, Introduces, HasTerms, IsAllowed, HasEigenvariables, found_by_rule, found_of_reason}
use Rattle.lgc_steps.specs.StepTests.{first_failing, all_zip, is_position, introduces, has_terms, is_allowed, has_eigenvariables, by_rule_tests, is_resolvent, step_tests}
use Rattle.lgc_steps.proofs.Findings.{Told, asked, nothing_asked, IsApart, apart_nothing, apart_asked}
use Rattle.lgc_steps.proofs.Tests.{Decides-test, Decides-mapped, is_position-Decides}
use Rattle.lgc_steps.proofs.Eigenvariables.{are_eigenvariables-Decides}

-- ---- tests of parts

earlier-Decides : (before : List PlainLine) (cited : List Cited) → Decides (list_all (λ c. is_position before c.line) cited) (All (λ c. IsPosition before c.line) cited)
earlier-Decides before cited = Decides-by_and (λ c. is_position before c.line) (λ c. IsPosition before c.line) (list_all (λ c. is_position before c.line)) (λ c. is_position-Decides before c.line) refl (λ c cs. refl) cited

introduces-Decides : (rule : PlainRule) (principal : Formula) (conclusion : List SignedFormula) → Decides (introduces rule principal conclusion) (Introduces rule principal conclusion)
introduces-Decides rule principal conclusion = (
  (λ passes. let parts = and_parts (is_compound_of rule.head principal) (list_all (has (sign_in conclusion principal)) rule.sign) passes in record { compound = parts.0; signed = parts.1 }),
  (λ is. and_from (is_compound_of rule.head principal) (list_all (has (sign_in conclusion principal)) rule.sign) is.compound is.signed),
)

resolvent-Decides : (f : Formula) (left right conclusion : List SignedFormula) → Decides (is_resolvent f left right conclusion) (IsResolvent f left right conclusion)
resolvent-Decides f left right conclusion = (
  (λ passes.
      let first = and_parts (is_included (without f left) conclusion) (is_included (without f right) conclusion && list_all (has (sign_in conclusion f)) (common (sign_in left f) (sign_in right f))) passes in
      let second = and_parts (is_included (without f right) conclusion) (list_all (has (sign_in conclusion f)) (common (sign_in left f) (sign_in right f))) first.1 in
      record { left_kept = first.0; right_kept = second.0; shared = second.1 }),
  (λ is. and_from (is_included (without f left) conclusion) (is_included (without f right) conclusion && list_all (has (sign_in conclusion f)) (common (sign_in left f) (sign_in right f)))
      is.left_kept (and_from (is_included (without f right) conclusion) (list_all (has (sign_in conclusion f)) (common (sign_in left f) (sign_in right f))) is.right_kept is.shared)),
)

-- ---- what is found

by_rule_found : (before : List PlainLine) (conclusion : List SignedFormula) (principal : Formula) (cited : List Cited) (rule : Option PlainRule) → Told (found_by_rule before conclusion principal cited rule) (by_rule_tests before conclusion principal cited rule)
by_rule_found before conclusion principal cited None = asked false ((λ passes. true≢false (sym passes)), (λ never. absurd never)) nothing_asked
by_rule_found before conclusion principal cited (Some rule) =
    asked (list_all (λ c. is_position before c.line) cited) (earlier-Decides before cited)
    (asked (all_zip (has_terms rule.head) rule.clauses cited) (Decides-mapped (has_terms rule.head) (HasTerms rule.head) (premise_at before) (λ sets c. Decides-eqb (length c.terms) (term_count rule.head sets)) rule.clauses cited)
    (asked (introduces rule principal conclusion) (introduces-Decides rule principal conclusion)
    (asked (all_zip (is_allowed rule.head principal conclusion before) rule.clauses cited) (Decides-mapped (is_allowed rule.head principal conclusion before) (IsAllowed rule.head principal conclusion) (premise_at before) (λ sets c. Decides-test (is_allowed rule.head principal conclusion before sets c)) rule.clauses cited)
    (asked (all_zip (has_eigenvariables rule.head conclusion) rule.clauses cited) (Decides-mapped (has_eigenvariables rule.head conclusion) (HasEigenvariables rule.head conclusion) (premise_at before) (λ sets c. are_eigenvariables-Decides conclusion (take (eigenvariable_count rule.head sets) c.terms)) rule.clauses cited)
    nothing_asked))))

reason_told : (n : ℕ) (rules : List PlainRule) (before : List PlainLine) (conclusion : List SignedFormula) (reason : Reason) → Told (found_of_reason n rules before conclusion reason) (step_tests n rules before conclusion reason)
reason_told n rules before conclusion Axiom = asked (is_axiom n conclusion) (Decides-test (is_axiom n conclusion)) nothing_asked
reason_told n rules before conclusion Pending = nothing_asked
reason_told n rules before conclusion (ByRule rule principal cited) = by_rule_found before conclusion principal cited (at_position rules rule)
reason_told n rules before conclusion (Resolve f left right) =
    asked (is_position before left && is_position before right) (Decides-and (is_position before left) (is_position before right) (is_position-Decides before left) (is_position-Decides before right))
    (asked (is_resolvent f (sequent_at before left) (sequent_at before right) conclusion) (resolvent-Decides f (sequent_at before left) (sequent_at before right) conclusion) nothing_asked)

-- what the tests tell is found
pub reason_found : (n : ℕ) (rules : List PlainRule) (before : List PlainLine) (conclusion : List SignedFormula) (reason : Reason) → found_of_reason n rules before conclusion reason (first_failing (step_tests n rules before conclusion reason))
reason_found n rules before conclusion reason = (reason_told n rules before conclusion reason).is

-- ---- steps

premises_from : (head : Head) (principal : Formula) (conclusion : List SignedFormula) (clauses : List (List (List ℕ))) (premises : List Premise) → AllZip (HasTerms head) clauses premises → AllZip (IsAllowed head principal conclusion) clauses premises → AllZip (HasEigenvariables head conclusion) clauses premises → AllZip (IsPremise head principal conclusion) clauses premises
premises_from head principal conclusion [] [] terms allowed variables = tt
premises_from head principal conclusion [] (p ∷ ps) terms allowed variables = terms
premises_from head principal conclusion (c ∷ cs) [] terms allowed variables = terms
premises_from head principal conclusion (c ∷ cs) (p ∷ ps) terms allowed variables =
    (record { terms = terms.0; eigenvariables = variables.0; allowed = allowed.0 }, premises_from head principal conclusion cs ps terms.1 allowed.1 variables.1)

by_rule_step : (rules : List PlainRule) (before : List PlainLine) (conclusion : List SignedFormula) (position : ℕ) (principal : Formula) (cited : List Cited) (found : Option PlainRule) → at_position rules position ≡ found
    → found_by_rule before conclusion principal cited found None ↔ IsByRule rules before conclusion position principal cited
by_rule_step rules before conclusion position principal cited None is = (
  (λ right. absurd right.0),
  (λ by. absurd (let gone : None ≡ Some by.rule = sym is ∙ by.stands in cc)),
)
by_rule_step rules before conclusion position principal cited (Some rule) is = (
  (λ right. record {
    rule = rule;
    stands = is;
    earlier = right.0;
    step = record {
      compound = right.1.1.0.compound;
      signed = right.1.1.0.signed;
      each = premises_from rule.head principal conclusion rule.clauses (map (premise_at before) cited) right.1.0 right.1.1.1.0 right.1.1.1.1.0;
    };
  }),
  (λ by.
      let same : by.rule ≡ rule = let both : Some by.rule ≡ Some rule = sym by.stands ∙ is in cc in
      let step : IsRuleStep rule principal conclusion (map (premise_at before) cited) = subst (λ (r : PlainRule). IsRuleStep r principal conclusion (map (premise_at before) cited)) same by.step in (
        by.earlier,
        (
          AllZip-weaker (IsPremise rule.head principal conclusion) (HasTerms rule.head) (λ sets premise p. p.terms) rule.clauses (map (premise_at before) cited) step.each,
          (
            record { compound = step.compound; signed = step.signed },
            (
              AllZip-weaker (IsPremise rule.head principal conclusion) (IsAllowed rule.head principal conclusion) (λ sets premise p. p.allowed) rule.clauses (map (premise_at before) cited) step.each,
              (
                AllZip-weaker (IsPremise rule.head principal conclusion) (HasEigenvariables rule.head conclusion) (λ sets premise p. p.eigenvariables) rule.clauses (map (premise_at before) cited) step.each,
                tt,
              ),
            ),
          ),
        ),
      )),
)

-- nothing is found of a line exactly where it is a step
pub step_by_parts : (n : ℕ) (rules : List PlainRule) (before : List PlainLine) (conclusion : List SignedFormula) (reason : Reason) → found_of_reason n rules before conclusion reason None ↔ IsReasonFor n rules before conclusion reason
step_by_parts n rules before conclusion Axiom = (λ right. right.0, λ full. (full, tt))
step_by_parts n rules before conclusion Pending = (λ right. tt, λ holds. tt)
step_by_parts n rules before conclusion (ByRule rule principal cited) = by_rule_step rules before conclusion rule principal cited (at_position rules rule) refl
step_by_parts n rules before conclusion (Resolve f left right) = (
  (λ parts. record { left_earlier = parts.0.0; right_earlier = parts.0.1; step = parts.1.0 }),
  (λ is. ((is.left_earlier, is.right_earlier), (is.step, tt))),
)

apart_by_rule : (before : List PlainLine) (conclusion : List SignedFormula) (principal : Formula) (cited : List Cited) (rule : Option PlainRule) → IsApart (found_by_rule before conclusion principal cited rule)
apart_by_rule before conclusion principal cited None = apart_asked apart_nothing
apart_by_rule before conclusion principal cited (Some rule) = apart_asked (apart_asked (apart_asked (apart_asked (apart_asked apart_nothing))))

pub apart_of_reason : (n : ℕ) (rules : List PlainRule) (before : List PlainLine) (conclusion : List SignedFormula) (reason : Reason) → IsApart (found_of_reason n rules before conclusion reason)
apart_of_reason n rules before conclusion Axiom = apart_asked apart_nothing
apart_of_reason n rules before conclusion Pending = apart_nothing
apart_of_reason n rules before conclusion (ByRule rule principal cited) = apart_by_rule before conclusion principal cited (at_position rules rule)
apart_of_reason n rules before conclusion (Resolve g left right) = apart_asked (apart_asked apart_nothing)

-- so nothing was found exactly where a line is a step
pub step_told : (n : ℕ) (rules : List PlainRule) (before : List PlainLine) (conclusion : List SignedFormula) (reason : Reason) (found : Option StepFault) → found_of_reason n rules before conclusion reason found → IsNone found ↔ IsReasonFor n rules before conclusion reason
step_told n rules before conclusion reason None right = (λ none. (step_by_parts n rules before conclusion reason).0 right, λ is. refl)
step_told n rules before conclusion reason (Some f) fault = (λ none. absurd (true≢false none), λ is. absurd ((apart_of_reason n rules before conclusion reason).apart f fault ((step_by_parts n rules before conclusion reason).1 is)))

-- ---- rules at their positions

slice_get-map : {n : ℕ} (rules : List (Numbered n)) (k : ℕ) (d : Numbered n) → k < length rules → slice_get (plain_rules rules) k ≡ Some (plain_rule (get_or rules k d).rule)
slice_get-map [] k d lt = absurd (omega arith)
slice_get-map (r ∷ rules) zero d lt = refl
slice_get-map (r ∷ rules) (suc k) d lt = slice_get-map rules k d (omega arith)

pub rule_there : {n : ℕ} (rules : List (Numbered n)) (position : ℕ) (numbered : Numbered n) → (position ≡ 0 → ⊥) → position ≤ length rules → numbered ≡ get_or rules (position - 1) numbered → Some (plain_rule numbered.rule) ≡ at_position (plain_rules rules) position
rule_there rules zero numbered some within is = absurd (some refl)
rule_there {n} rules (suc k) numbered some within is =
    let place : suc k - 1 ≡ k = omega arith in
    ap (λ (r : Numbered n). Some (plain_rule r.rule)) (is ∙ ap (λ i. get_or rules i numbered) place) ∙ sym (slice_get-map rules k numbered (omega arith))
