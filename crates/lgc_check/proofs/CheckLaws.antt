-- What is found of the parts of a report makes the verdict on it.
use Rattle.std.proofs.Common.{◌≡◌, ℕ, List, [], ◌∷◌, map, refl, sym, ap, subst, ◌∙◌}
use Rattle.std.specs.List.{All}
use Rattle.lgc_values.specs.Logic.{Logic}
use Rattle.lgc_clauses.specs.Kinds.{plain_rule}
use Rattle.lgc_clauses.specs.declared.rule.Numbered.{Numbered}
use Rattle.lgc_sequents.specs.Sequents.{IsSequent}
use Rattle.lgc_sequents.specs.Lines.{PlainLine}
use Rattle.lgc_steps.specs.StepFaults.{plain_rules}
use Rattle.lgc_report.specs.Reports.{PlainNumbered, plain_numbered, plain_claim, plain_report}
use Rattle.lgc_report.specs.declared.report.Claim.{Claim}
use Rattle.lgc_report.specs.declared.report.Report.{Report}
use Rattle.lgc_check.specs.declared.verdict.Cause.{Cause}
use Rattle.lgc_check.specs.declared.verdict.Place.TheVariants as place
use Rattle.lgc_check.specs.Causes.{found_of_rule, found_of_line, found_of_claim}
use Rattle.lgc_check.specs.Verdicts.{AreRight, IsFirstFault, rules_of, AreRulesRight, AreLinesRight, IsFirstOf}

without_numbers : {n : ℕ} (rules : List (Numbered n)) → map (λ (numbered : PlainNumbered). numbered.rule) (map plain_numbered rules) ≡ plain_rules rules
without_numbers [] = refl
without_numbers (numbered ∷ rules) = ap (λ rest. plain_rule numbered.rule ∷ rest) (without_numbers rules)

module _ {n : ℕ} (logic : Logic) (report : Report n) (rules : List (Numbered n)) (lines : List PlainLine) (are_rules : rules ≡ report.rules) (are_lines : lines ≡ report.lines) where
  same_rules : plain_rules rules ≡ rules_of (plain_report report)
  same_rules = ap plain_rules are_rules ∙ sym (without_numbers report.rules)

  pub rules_right : AreRight (found_of_rule logic) (map plain_numbered rules) → AreRulesRight logic (plain_report report)
  rules_right right = subst (λ (rs : List (Numbered n)). AreRight (found_of_rule logic) (map plain_numbered rs)) are_rules right

  pub rule_first : (position : ℕ) (cause : Cause) → IsFirstFault (found_of_rule logic) (map plain_numbered rules) position cause → IsFirstOf logic (plain_report report) place.Rule position cause
  rule_first position cause first = subst (λ (rs : List (Numbered n)). IsFirstFault (found_of_rule logic) (map plain_numbered rs) position cause) are_rules first

  module _ (size : logic.size ≡ n) where
    pub lines_right : AreRight (found_of_line n (plain_rules rules) lines) lines → AreLinesRight logic (plain_report report)
    lines_right right =
        subst (λ ls. AreRight (found_of_line logic.size (rules_of (plain_report report)) ls) ls) are_lines
        (subst (λ rs. AreRight (found_of_line logic.size rs lines) lines) same_rules
        (subst (λ k. AreRight (found_of_line k (plain_rules rules) lines) lines) (sym size) right))

    pub line_first : (position : ℕ) (cause : Cause) → IsFirstFault (found_of_line n (plain_rules rules) lines) lines position cause → IsFirstFault (found_of_line logic.size (rules_of (plain_report report)) report.lines) report.lines position cause
    line_first position cause first =
        subst (λ ls. IsFirstFault (found_of_line logic.size (rules_of (plain_report report)) ls) ls position cause) are_lines
        (subst (λ rs. IsFirstFault (found_of_line logic.size rs lines) lines position cause) same_rules
        (subst (λ k. IsFirstFault (found_of_line k (plain_rules rules) lines) lines position cause) (sym size) first))

    pub sequents : All (λ line. IsSequent n line.sequent) lines → All (λ line. IsSequent logic.size line.sequent) report.lines
    sequents are = subst (λ ls. All (λ (line : PlainLine). IsSequent logic.size line.sequent) ls) are_lines (subst (λ k. All (λ (line : PlainLine). IsSequent k line.sequent) lines) (sym size) are)

  module _ (claims : List (Claim n)) (are_claims : claims ≡ report.claims) where
    pub claims_right : AreRight (found_of_claim logic lines) (map plain_claim claims) → AreRight (found_of_claim logic report.lines) (map plain_claim report.claims)
    claims_right right =
        subst (λ (cs : List (Claim n)). AreRight (found_of_claim logic report.lines) (map plain_claim cs)) are_claims
        (subst (λ ls. AreRight (found_of_claim logic ls) (map plain_claim claims)) are_lines right)

    pub claim_first : (position : ℕ) (cause : Cause) → IsFirstFault (found_of_claim logic lines) (map plain_claim claims) position cause → IsFirstFault (found_of_claim logic report.lines) (map plain_claim report.claims) position cause
    claim_first position cause first =
        subst (λ (cs : List (Claim n)). IsFirstFault (found_of_claim logic report.lines) (map plain_claim cs) position cause) are_claims
        (subst (λ ls. IsFirstFault (found_of_claim logic ls) (map plain_claim claims) position cause) are_lines first)
