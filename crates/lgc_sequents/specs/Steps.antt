-- When a line is a step: by an axiom, pending, by a rule, or by resolution.
use Rattle.std.specs.Prelude.{◌≡◌, ◌≢◌, ℕ, ◌+◌, ◌==◌, not, ◌&&◌, ◌||◌, Bool, true, false, List, [], ◌∷◌, ◌++◌, length, map, filter, take, drop, All, AllPairs, Some}
use Rattle.std.specs.List.{list_all, list_any, zip, AllZip}
use Rattle.lgc_values.specs.Values.{has}
use Rattle.lgc_clauses.specs.Rules.{Head, operator, quantifier, PlainRule}
use Rattle.lgc_syntax.specs.declared.formula.Term.{Term, Free}
use Rattle.lgc_syntax.specs.declared.formula.Formula.{Formula, out-Formula}
use Rattle.lgc_syntax.specs.declared.formula.Formula.TheOpen.{Formula-F}
use Rattle.lgc_syntax.specs.declared.formula.Formula.TheOpen as formula
use Rattle.lgc_syntax.specs.Equality.{same_formula}
use Rattle.lgc_syntax.specs.Variables.{free}
use Rattle.lgc_syntax.specs.Substitution.{inst}
use Rattle.lgc_sequents.specs.Signed.{SignedFormula}
use Rattle.lgc_sequents.specs.Sequents.{sign_in, is_included, is_axiom}
use Rattle.lgc_sequents.specs.Lines.{PlainLine, at_position, IsPosition, sequent_at}
use Rattle.lgc_sequents.specs.declared.line.Cited.{Cited}
use Rattle.lgc_sequents.specs.declared.line.Reason.{Reason}
use Rattle.lgc_sequents.specs.declared.line.Reason.TheVariants.{Axiom, Pending, ByRule, Resolve}

-- ---- the formulas of a step by a rule

abbrev pub compound_layer : Head → Formula-F Formula → Bool
compound_layer (operator op) (formula.Atom p args) = false
compound_layer (operator op) (formula.Op o args) = o == op
compound_layer (operator op) (formula.Quant q body) = false
compound_layer (quantifier q) (formula.Atom p args) = false
compound_layer (quantifier q) (formula.Op o args) = false
compound_layer (quantifier q) (formula.Quant r body) = r == q

-- whether the outermost symbol of a formula is this operator or quantifier
unfoldable pub is_compound_of : Head → Formula → Bool
is_compound_of head f = compound_layer head (out-Formula f)

abbrev pub below_layer : Formula-F Formula → List Term → List Formula
below_layer (formula.Atom p args) terms = []
below_layer (formula.Op o args) terms = args
below_layer (formula.Quant q body) terms = map (inst body) terms

-- the arguments of an operator, or the instances of a quantifier's body by terms
unfoldable pub formulas_below : Formula → List Term → List Formula
formulas_below f terms = below_layer (out-Formula f) terms

-- ---- clauses

-- The sets of a clause in the order of the formulas on which they stand. The `some` set, which a quantifier's clause has first, is the last.
abbrev pub in_order : Head → List (List ℕ) → List (List ℕ)
in_order (operator op) sets = sets
in_order (quantifier q) sets = drop 1 sets ++ take 1 sets

-- formulas with signs, as far as there are both
abbrev pub with_signs : List (List ℕ) → List Formula → List SignedFormula
with_signs signs formulas = map (λ pair. record { formula = pair.1; sign = pair.0 }) (zip signs formulas)

-- the formulas that a clause puts into its premise, each with the set that stands on it
abbrev pub auxiliary_formulas : Head → List (List ℕ) → Formula → List Term → List SignedFormula
auxiliary_formulas head sets principal terms = with_signs (in_order head sets) (formulas_below principal terms)

-- how many eigenvariables a premise has: one for each `all` set
abbrev pub eigenvariable_count : Head → List (List ℕ) → ℕ
eigenvariable_count (operator op) sets = 0
eigenvariable_count (quantifier q) sets = length (drop 1 sets)

-- how many terms a premise has: one for each `all` set, and one for a `some` set that has members
abbrev pub term_count : Head → List (List ℕ) → ℕ
term_count (operator op) sets = 0
term_count (quantifier q) [] = 0
term_count (quantifier q) ([] ∷ all) = length all
term_count (quantifier q) ((v ∷ some) ∷ all) = length all + 1

-- ---- premises

-- a premise of a step by a rule, with its terms
pub record Premise : Type 0 where
  pub sequent : List SignedFormula
  pub terms : List Term

-- a premise without terms
abbrev pub without_terms : List SignedFormula → Premise
without_terms sequent = record { sequent = sequent; terms = [] }

-- variables that differ and aren't free in the conclusion
pub record AreEigenvariables (conclusion : List SignedFormula) (terms : List Term) : Type 0 where
  pub names : List (List ℕ)
  pub variables : terms ≡ map Free names
  pub differ : AllPairs (λ x y. x ≢ y) names
  pub fresh : All (λ x. All (λ item. free x item.formula ≡ false) conclusion) names

-- whether some item gives the value v to a formula
abbrev pub carries : List SignedFormula → Formula → ℕ → Bool
carries items f v = list_any (λ item. same_formula f item.formula && has item.sign v) items

-- whether each value of each item lies in the conclusion's sign of the item's formula, or stands on it among the auxiliary formulas
abbrev pub are_allowed : List SignedFormula → List SignedFormula → List SignedFormula → Bool
are_allowed conclusion auxiliary items = list_all (λ item. list_all (λ v. has (sign_in conclusion item.formula) v || carries auxiliary item.formula v) item.sign) items

-- the premise for a clause of a rule
pub record IsPremise (head : Head) (principal : Formula) (conclusion : List SignedFormula) (sets : List (List ℕ)) (premise : Premise) : Type 0 where
  pub terms : length premise.terms ≡ term_count head sets
  pub eigenvariables : AreEigenvariables conclusion (take (eigenvariable_count head sets) premise.terms)
  pub allowed : are_allowed conclusion (auxiliary_formulas head sets principal premise.terms) premise.sequent ≡ true

-- A step by a rule. The rule's operator or quantifier is the outermost one of the principal formula, whose sign in the conclusion has all
-- values of the rule's sign. There is a premise for each clause.
pub record IsRuleStep (rule : PlainRule) (principal : Formula) (conclusion : List SignedFormula) (premises : List Premise) : Type 0 where
  pub compound : is_compound_of rule.head principal ≡ true
  pub signed : list_all (has (sign_in conclusion principal)) rule.sign ≡ true
  pub each : AllZip (IsPremise rule.head principal conclusion) rule.clauses premises

-- ---- resolution

-- the items on other formulas
abbrev pub without : Formula → List SignedFormula → List SignedFormula
without f items = filter (λ item. not (same_formula f item.formula)) items

-- the values that are in both sets
abbrev pub common : List ℕ → List ℕ → List ℕ
common a b = filter (has b) a

-- A step by resolution on a formula. What the two lines say of other formulas lies in the conclusion, and so do the values that both give to
-- this one.
pub record IsResolvent (f : Formula) (left right conclusion : List SignedFormula) : Type 0 where
  pub left_kept : is_included (without f left) conclusion ≡ true
  pub right_kept : is_included (without f right) conclusion ≡ true
  pub shared : list_all (has (sign_in conclusion f)) (common (sign_in left f) (sign_in right f)) ≡ true

-- ---- lines

-- a cited line as a premise
abbrev pub premise_at : List PlainLine → Cited → Premise
premise_at before cited = record { sequent = sequent_at before cited.line; terms = cited.terms }

-- by the rule at a position, from lines that stand before
pub record IsByRule (rules : List PlainRule) (before : List PlainLine) (conclusion : List SignedFormula) (position : ℕ) (principal : Formula) (premises : List Cited) : Type 0 where
  pub rule : PlainRule
  pub stands : at_position rules position ≡ Some rule
  pub earlier : All (λ cited. IsPosition before cited.line) premises
  pub step : IsRuleStep rule principal conclusion (map (premise_at before) premises)

-- by resolution of two lines that stand before
pub record IsByResolution (before : List PlainLine) (conclusion : List SignedFormula) (f : Formula) (left right : ℕ) : Type 0 where
  pub left_earlier : IsPosition before left
  pub right_earlier : IsPosition before right
  pub step : IsResolvent f (sequent_at before left) (sequent_at before right) conclusion

-- the reason holds of a sequent
abbrev pub IsReasonFor : ℕ → List PlainRule → List PlainLine → List SignedFormula → Reason → Type 0
IsReasonFor n rules before conclusion Axiom = is_axiom n conclusion ≡ true
IsReasonFor n rules before conclusion Pending = Unit {0}
IsReasonFor n rules before conclusion (ByRule rule principal premises) = IsByRule rules before conclusion rule principal premises
IsReasonFor n rules before conclusion (Resolve f left right) = IsByResolution before conclusion f left right

-- a line is a step, given the rules and the lines before it, in a logic of n truth values
abbrev pub IsStep : ℕ → List PlainRule → List PlainLine → PlainLine → Type 0
IsStep n rules before line = IsReasonFor n rules before line.sequent line.reason

-- each of some lines is a step, given those before it
abbrev pub AreSteps : ℕ → List PlainRule → List PlainLine → List PlainLine → Type 0
AreSteps n rules before [] = Unit {0}
AreSteps n rules before (line ∷ lines) = IsStep n rules before line × AreSteps n rules (before ++ line ∷ []) lines
