-- What is found of a line that isn't a step: the first part that fails.
use Rattle.std.specs.Prelude.{◌≡◌, ℕ, true, List, length, map, take, All, Option, Some, None, slice_get}
use Rattle.std.specs.List.{list_all, AllZip}
use Rattle.lgc_values.specs.Values.{has}
use Rattle.lgc_clauses.specs.Rules.{Head, PlainRule}
use Rattle.lgc_clauses.specs.Kinds.{plain_rule}
use Rattle.lgc_clauses.specs.declared.rule.Numbered.{Numbered}
use Rattle.lgc_syntax.specs.declared.formula.Formula.{Formula}
use Rattle.lgc_sequents.specs.Signed.{SignedFormula}
use Rattle.lgc_sequents.specs.Sequents.{sign_in, is_axiom}
use Rattle.lgc_sequents.specs.Lines.{PlainLine, at_position, IsPosition, sequent_at}
use Rattle.lgc_sequents.specs.Steps.{is_compound_of, auxiliary_formulas, eigenvariable_count, term_count, Premise, AreEigenvariables, are_allowed, IsResolvent, premise_at}
use Rattle.lgc_sequents.specs.declared.line.Cited.{Cited}
use Rattle.lgc_sequents.specs.declared.line.Reason.{Reason}
use Rattle.lgc_sequents.specs.declared.line.Reason.TheVariants.{Axiom, Pending, ByRule, Resolve}
use Rattle.lgc_steps.specs.declared.fault.StepFault.{StepFault}
use Rattle.lgc_steps.specs.declared.fault.StepFault.TheVariants as fault
use Rattle.lgc_steps.specs.Findings.{Finding, nothing, asks}

-- the rules, without their numbers
abbrev pub plain_rules : {n : ℕ} → List (Numbered n) → List PlainRule
plain_rules rules = map (λ numbered. plain_rule numbered.rule) rules

-- ---- the parts of a step by a rule

-- the principal formula's outermost symbol is the rule's, and its sign in the conclusion has all values of the rule's sign
pub record Introduces (rule : PlainRule) (principal : Formula) (conclusion : List SignedFormula) : Type 0 where
  pub compound : is_compound_of rule.head principal ≡ true
  pub signed : list_all (has (sign_in conclusion principal)) rule.sign ≡ true

-- a premise has a term for each set of its clause that asks for one
abbrev pub HasTerms : Head → List (List ℕ) → Premise → Type 0
HasTerms head sets premise = length premise.terms ≡ term_count head sets

-- each value in a premise lies in the conclusion, or its clause puts it there
abbrev pub IsAllowed : Head → Formula → List SignedFormula → List (List ℕ) → Premise → Type 0
IsAllowed head principal conclusion sets premise = are_allowed conclusion (auxiliary_formulas head sets principal premise.terms) premise.sequent ≡ true

-- the terms that stand for `all` sets are eigenvariables
abbrev pub HasEigenvariables : Head → List SignedFormula → List (List ℕ) → Premise → Type 0
HasEigenvariables head conclusion sets premise = AreEigenvariables conclusion (take (eigenvariable_count head sets) premise.terms)

-- ---- what is found

-- of a line by the rule that stands at a position, if any
abbrev pub found_by_rule : List PlainLine → List SignedFormula → Formula → List Cited → Option PlainRule → Finding StepFault
found_by_rule before conclusion principal cited None = asks ⊥ fault.UnknownRule nothing
found_by_rule before conclusion principal cited (Some rule) =
    asks (All (λ c. IsPosition before c.line) cited) fault.NotEarlier
    (asks (AllZip (HasTerms rule.head) rule.clauses (map (premise_at before) cited)) fault.Premises
    (asks (Introduces rule principal conclusion) fault.Sign
    (asks (AllZip (IsAllowed rule.head principal conclusion) rule.clauses (map (premise_at before) cited)) fault.Foreign
    (asks (AllZip (HasEigenvariables rule.head conclusion) rule.clauses (map (premise_at before) cited)) fault.Eigenvariable
    nothing))))

-- of a sequent with a reason, given the rules and the lines before
abbrev pub found_of_reason : ℕ → List PlainRule → List PlainLine → List SignedFormula → Reason → Finding StepFault
found_of_reason n rules before conclusion Axiom = asks (is_axiom n conclusion ≡ true) fault.Incomplete nothing
found_of_reason n rules before conclusion Pending = nothing
found_of_reason n rules before conclusion (ByRule rule principal cited) = found_by_rule before conclusion principal cited (at_position rules rule)
found_of_reason n rules before conclusion (Resolve f left right) =
    asks (IsPosition before left × IsPosition before right) fault.NotEarlier
    (asks (IsResolvent f (sequent_at before left) (sequent_at before right) conclusion) fault.Foreign
    nothing)

-- of a line, given the rules and the lines before it, in a logic of n truth values
abbrev pub found_of_step : ℕ → List PlainRule → List PlainLine → PlainLine → Finding StepFault
found_of_step n rules before line = found_of_reason n rules before line.sequent line.reason

-- of the line at a place among lines, counted from 0
abbrev pub FoundAt : ℕ → List PlainRule → List PlainLine → ℕ → Option StepFault → Type 0
FoundAt n rules lines at found = (line : PlainLine) → slice_get lines at ≡ Some line → found_of_step n rules (take at lines) line found
