-- A sequent to which a rule of an operator leads has an operator.
use Rattle.std.proofs.Common.{◌≡◌, ℕ, ◌+◌, ◌<◌, ◌≤◌, true, List, [], ◌∷◌, map, refl, sym, ◌∙◌, ap, subst, arith, true≢false}
use Rattle.std.specs.Prelude.{Contains}
use Rattle.std.specs.List.{sum_by}
use Rattle.std.proofs.lemmas.List.Sums.{get_or-le-sum_by, sum_by-cons}
use Rattle.lgc_values.specs.Values.{has}
use Rattle.lgc_clauses.specs.Rules.{operator, OperatorRule, of_operator}
use Rattle.lgc_syntax.specs.declared.formula.Formula.{Formula}
use Rattle.lgc_syntax.specs.declared.formula.Formula.TheVariants.{outs-Atom, outs-Quant}
use Rattle.lgc_syntax.specs.Sizes as syntax
use Rattle.lgc_syntax.proofs.Induction.{formula_induction}
use Rattle.lgc_syntax.proofs.SizeLaws.{operators-Op}
use Rattle.lgc_sequents.specs.Signed.{SignedFormula}
use Rattle.lgc_sequents.specs.Sequents.{IsSign, sign_in}
use Rattle.lgc_sequents.specs.Steps.{compound_layer, is_compound_of, Premise, IsRuleStep}
use Rattle.lgc_sequents.proofs.Laws.{list_all-has}
use Rattle.lgc_packed.proofs.Rising.{some_member}
use Rattle.lgc_proofs.specs.Found.{operators}
use Rattle.lgc_proofs.proofs.Operators.{sign_occurs}

compound_has_operator : (op : ℕ) (f : Formula) → is_compound_of (operator op) f ≡ true → 0 < syntax.operators f
unfolding is_compound_of
compound_has_operator op = formula_induction (λ f. is_compound_of (operator op) f ≡ true → 0 < syntax.operators f)
    (λ p args is. absurd (true≢false (sym is ∙ ap (compound_layer (operator op)) (outs-Atom p args))))
    (λ o args each is. let more = operators-Op o args in omega (arith, more))
    (λ q body more is. absurd (true≢false (sym is ∙ ap (compound_layer (operator op)) (outs-Quant q body))))

operators_of_formulas : (items : List SignedFormula) → sum_by syntax.operators (map (λ item. item.formula) items) ≡ operators items
operators_of_formulas [] = refl
operators_of_formulas (x ∷ xs) =
    sum_by-cons syntax.operators x.formula (map (λ item. item.formula) xs) ∙ ap (λ n. syntax.operators x.formula + n) (operators_of_formulas xs) ∙ sym (sum_by-cons (λ (item : SignedFormula). syntax.operators item.formula) x xs)

-- a formula that occurs has at most the operators of the sequent
occurring_within : (items : List SignedFormula) (f : Formula) → Contains (map (λ item. item.formula) items) f → syntax.operators f ≤ operators items
occurring_within items f there =
    subst (λ n. syntax.operators f ≤ n) (operators_of_formulas items)
    (subst (λ g. syntax.operators g ≤ sum_by syntax.operators (map (λ item. item.formula) items)) there.2 (get_or-le-sum_by syntax.operators (map (λ item. item.formula) items) there.0 f there.1))

pub conclusion_has_operator : (n : ℕ) (rule : OperatorRule) (principal : Formula) (conclusion : List SignedFormula) (premises : List Premise) → IsSign n rule.sign → IsRuleStep (of_operator rule) principal conclusion premises → 0 < operators conclusion
conclusion_has_operator n rule principal conclusion premises sign step =
    let member = some_member n rule.sign sign in
    let occurs = sign_occurs conclusion principal member.0 (list_all-has (has (sign_in conclusion principal)) rule.sign member.0 step.signed member.2) in
    let some = compound_has_operator rule.op principal step.compound in
    let within = occurring_within conclusion principal occurs in
    omega (arith, some, within)
