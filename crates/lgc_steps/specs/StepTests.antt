-- Words of private calls: the parts of a step as tests.
use Rattle.std.specs.Prelude.{◌≡◌, ◌<◌, slice_index_or, ℕ, nat_lt, nat_le, ◌==◌, ◌&&◌, not, Bool, true, false, List, [], ◌∷◌, length, take, Option, Some, None, if◌then◌else◌}
use Rattle.std.specs.List.{list_all, list_any}
use Rattle.lgc_values.specs.Values.{has}
use Rattle.lgc_clauses.specs.Rules.{Head, PlainRule}
use Rattle.lgc_syntax.specs.declared.formula.Term.{Term, out-Term}
use Rattle.lgc_syntax.specs.declared.formula.Term.TheOpen.{Term-F}
use Rattle.lgc_syntax.specs.declared.formula.Term.TheOpen as term
use Rattle.lgc_syntax.specs.declared.formula.Formula.{Formula}
use Rattle.lgc_syntax.specs.Equality.{same_term}
use Rattle.lgc_syntax.specs.Variables.{free}
use Rattle.lgc_sequents.specs.Signed.{SignedFormula}
use Rattle.lgc_sequents.specs.Sequents.{sign_in, is_included, is_axiom}
use Rattle.lgc_sequents.specs.Lines.{PlainLine, at_position, sequent_at}
use Rattle.lgc_sequents.specs.Steps.{is_compound_of, auxiliary_formulas, eigenvariable_count, term_count, carries, are_allowed, without, common}
use Rattle.lgc_sequents.specs.declared.line.Cited.{Cited}
use Rattle.lgc_sequents.specs.declared.line.Reason.{Reason}
use Rattle.lgc_sequents.specs.declared.line.Reason.TheVariants.{Axiom, Pending, ByRule, Resolve}
use Rattle.lgc_steps.specs.declared.fault.StepFault.{StepFault}
use Rattle.lgc_steps.specs.declared.fault.StepFault.TheVariants as fault

-- the mark of the first test that fails
abbrev pub first_failing : {T : Type 0} → List (T × Bool) → Option T
first_failing [] = None
first_failing (x ∷ xs) = if x.1 then first_failing xs else Some x.0

-- two lists are equally long, and what stands at one place passes
abbrev pub all_zip : {X Y : Type 0} → (X → Y → Bool) → List X → List Y → Bool
all_zip test [] [] = true
all_zip test (x ∷ xs) (y ∷ ys) = test x y && all_zip test xs ys
all_zip test [] (y ∷ ys) = false
all_zip test (x ∷ xs) [] = false

abbrev pub is_position : {X : Type 0} → List X → ℕ → Bool
is_position xs position = nat_lt 0 position && nat_le position (length xs)

-- ---- places of formulas

-- a formula stands at a place, counted from 0
pub record IsPlaceOf (items : List SignedFormula) (f : Formula) (place : ℕ) : Type 0 where
  pub within : place < length items
  pub there : (d : SignedFormula) → f ≡ (slice_index_or items place d).formula

-- a set has the values below n that items give to a formula
abbrev pub Covers : ℕ → List SignedFormula → Formula → List ℕ → Type 0
Covers n items f set = (v : ℕ) → v < n → has set v ≡ carries items f v

-- ---- premises of a step by a rule

abbrev pub introduces : PlainRule → Formula → List SignedFormula → Bool
introduces rule principal conclusion = is_compound_of rule.head principal && list_all (has (sign_in conclusion principal)) rule.sign

abbrev pub has_terms : Head → List (List ℕ) → Cited → Bool
has_terms head sets cited = length cited.terms == term_count head sets

abbrev pub is_allowed : Head → Formula → List SignedFormula → List PlainLine → List (List ℕ) → Cited → Bool
is_allowed head principal conclusion before sets cited = are_allowed conclusion (auxiliary_formulas head sets principal cited.terms) (sequent_at before cited.line)

-- a free variable that isn't among further terms and isn't free in the conclusion
abbrev pub eigenvariable_layer : List SignedFormula → List Term → Term → Term-F Term → Bool
eigenvariable_layer conclusion others t (term.Bound i) = false
eigenvariable_layer conclusion others t (term.Free x) = not (list_any (same_term t) others) && list_all (λ item. not (free x item.formula)) conclusion
eigenvariable_layer conclusion others t (term.Apply f args) = false

unfoldable pub is_eigenvariable : List SignedFormula → List Term → Term → Bool
is_eigenvariable conclusion others t = eigenvariable_layer conclusion others t (out-Term t)

abbrev pub are_eigenvariables : List SignedFormula → List Term → Bool
are_eigenvariables conclusion [] = true
are_eigenvariables conclusion (t ∷ ts) = is_eigenvariable conclusion ts t && are_eigenvariables conclusion ts

abbrev pub has_eigenvariables : Head → List SignedFormula → List (List ℕ) → Cited → Bool
has_eigenvariables head conclusion sets cited = are_eigenvariables conclusion (take (eigenvariable_count head sets) cited.terms)

-- ---- steps

abbrev pub rule_tests : List PlainLine → List SignedFormula → Formula → List Cited → PlainRule → List (StepFault × Bool)
rule_tests before conclusion principal cited rule =
    (fault.NotEarlier, list_all (λ c. is_position before c.line) cited)
    ∷ (fault.Premises, all_zip (has_terms rule.head) rule.clauses cited)
    ∷ (fault.Sign, introduces rule principal conclusion)
    ∷ (fault.Foreign, all_zip (is_allowed rule.head principal conclusion before) rule.clauses cited)
    ∷ (fault.Eigenvariable, all_zip (has_eigenvariables rule.head conclusion) rule.clauses cited)
    ∷ []

abbrev pub by_rule_tests : List PlainLine → List SignedFormula → Formula → List Cited → Option PlainRule → List (StepFault × Bool)
by_rule_tests before conclusion principal cited None = (fault.UnknownRule, false) ∷ []
by_rule_tests before conclusion principal cited (Some rule) = rule_tests before conclusion principal cited rule

abbrev pub is_resolvent : Formula → List SignedFormula → List SignedFormula → List SignedFormula → Bool
is_resolvent f left right conclusion =
    is_included (without f left) conclusion && (is_included (without f right) conclusion && list_all (has (sign_in conclusion f)) (common (sign_in left f) (sign_in right f)))

abbrev pub resolve_tests : List PlainLine → List SignedFormula → Formula → ℕ → ℕ → List (StepFault × Bool)
resolve_tests before conclusion f left right =
    (fault.NotEarlier, is_position before left && is_position before right)
    ∷ (fault.Foreign, is_resolvent f (sequent_at before left) (sequent_at before right) conclusion)
    ∷ []

abbrev pub step_tests : ℕ → List PlainRule → List PlainLine → List SignedFormula → Reason → List (StepFault × Bool)
step_tests n rules before conclusion Axiom = (fault.Incomplete, is_axiom n conclusion) ∷ []
step_tests n rules before conclusion Pending = []
step_tests n rules before conclusion (ByRule rule principal cited) = by_rule_tests before conclusion principal cited (at_position rules rule)
step_tests n rules before conclusion (Resolve f left right) = resolve_tests before conclusion f left right
