-- Laws of steps: where steps stay steps.
use Rattle.std.proofs.Common.{⊎_elim, ◌≡◌, ℕ, zero, suc, ◌<◌, ◌≤◌, ◌==◌, Bool, true, false, cond, ◌||◌, List, [], ◌∷◌, ◌++◌, map, length, take, refl, sym, ◌∙◌, ap, subst, arith, append-nil, append_assoc, length-append}
use Rattle.std.specs.Prelude.{slice_get, Some}
use Rattle.std.specs.List.{All, AllZip, list_all}
use Rattle.std.proofs.lemmas.Bool.{and_parts, or_cases, or_left, or_right, eq-eqb}
use Rattle.std.proofs.lemmas.List.Elements.{All-head, All-tail, All-nil, All-weaker}
use Rattle.std.proofs.lemmas.Option.{slice_get_within}
use Rattle.lgc_values.specs.Values.{has}
use Rattle.lgc_clauses.specs.Rules.{operator, quantifier, PlainRule}
use Rattle.lgc_syntax.specs.declared.formula.Term.{Term}
use Rattle.lgc_syntax.specs.declared.formula.Formula.{Formula, Op, Quant}
use Rattle.lgc_syntax.specs.declared.formula.Formula.TheVariants.{outs-Op, outs-Quant}
use Rattle.lgc_syntax.specs.Equality.{same_formula}
use Rattle.lgc_syntax.specs.Variables.{free}
use Rattle.lgc_syntax.specs.Substitution.{inst}
use Rattle.lgc_syntax.proofs.EqualityLaws.{same_formula-Decides}
use Rattle.lgc_sequents.specs.Signed.{SignedFormula}
use Rattle.lgc_sequents.specs.Sequents.{sign_in, is_included}
use Rattle.lgc_sequents.proofs.Laws.{list_all-has}
use Rattle.lgc_sequents.specs.Lines.{PlainLine, at_position, IsPosition, sequent_of, sequent_at}
use Rattle.lgc_sequents.specs.declared.line.Cited.{Cited}
use Rattle.lgc_sequents.specs.declared.line.Reason.{Reason}
use Rattle.lgc_sequents.specs.declared.line.Reason.TheVariants.{Axiom, Pending, ByRule, Resolve}
use Rattle.lgc_sequents.specs.Steps.{compound_layer, is_compound_of, below_layer, formulas_below, with_signs, auxiliary_formulas, Premise, without_terms, AreEigenvariables, carries, are_allowed, IsPremise, IsRuleStep, IsResolvent, premise_at, IsReasonFor, IsStep, AreSteps}

-- ---- compounds

pub compound-Op : (op o : ℕ) (args : List Formula) → is_compound_of (operator op) (Op o args) ≡ (o == op)
unfolding is_compound_of
compound-Op op o args = ap (compound_layer (operator op)) (outs-Op o args)

pub compound-Quant : (q r : ℕ) (body : Formula) → is_compound_of (quantifier q) (Quant r body) ≡ (r == q)
unfolding is_compound_of
compound-Quant q r body = ap (compound_layer (quantifier q)) (outs-Quant r body)

pub below-Op : (o : ℕ) (args : List Formula) (terms : List Term) → formulas_below (Op o args) terms ≡ args
unfolding formulas_below
below-Op o args terms = ap (λ f. below_layer f terms) (outs-Op o args)

pub below-Quant : (q : ℕ) (body : Formula) (terms : List Term) → formulas_below (Quant q body) terms ≡ map (inst body) terms
unfolding formulas_below
below-Quant q body terms = ap (λ f. below_layer f terms) (outs-Quant q body)

-- ---- lists

pub list_all_weaker : {X : Type 0} (p q : X → Bool) → ((x : X) → p x ≡ true → q x ≡ true) → (xs : List X) → list_all p xs ≡ true → list_all q xs ≡ true
list_all_weaker p q weaker [] all = refl
list_all_weaker p q weaker (x ∷ xs) all =
    let parts = and_parts (p x) (list_all p xs) all in
    rw (weaker x parts.0) (list_all_weaker p q weaker xs parts.1)

pub AllZip-weaker : {X Y : Type 0} (R S : X → Y → Type 0) → ((x : X) (y : Y) → R x y → S x y) → (xs : List X) (ys : List Y) → AllZip R xs ys → AllZip S xs ys
AllZip-weaker R S weaker [] [] all = all
AllZip-weaker R S weaker [] (y ∷ ys) all = absurd all
AllZip-weaker R S weaker (x ∷ xs) [] all = absurd all
AllZip-weaker R S weaker (x ∷ xs) (y ∷ ys) all = (weaker x y all.0, AllZip-weaker R S weaker xs ys all.1)

pub AllZip-map : {X Y Z : Type 0} (R : X → Y → Type 0) (f : Z → Y) (xs : List X) (zs : List Z) → AllZip (λ x z. R x (f z)) xs zs → AllZip R xs (map f zs)
AllZip-map R f [] [] all = all
AllZip-map R f [] (z ∷ zs) all = absurd all
AllZip-map R f (x ∷ xs) [] all = absurd all
AllZip-map R f (x ∷ xs) (z ∷ zs) all = (all.0, AllZip-map R f xs zs all.1)

slice_get-append : {X : Type 0} (xs ys : List X) (i : ℕ) → i < length xs → slice_get (xs ++ ys) i ≡ slice_get xs i
slice_get-append [] ys i lt = absurd (omega arith)
slice_get-append (x ∷ xs) ys zero lt = refl
slice_get-append (x ∷ xs) ys (suc i) lt = slice_get-append xs ys i (omega arith)

-- what stands at a position stays there when more is put behind
pub at_position-append : {X : Type 0} (xs ys : List X) (position : ℕ) → position ≤ length xs → at_position (xs ++ ys) position ≡ at_position xs position
at_position-append xs ys zero le = refl
at_position-append xs ys (suc k) le = slice_get-append xs ys k (omega arith)

pub at_position_within : {X : Type 0} (xs : List X) (position : ℕ) (x : X) → at_position xs position ≡ Some x → IsPosition xs position
at_position_within xs zero x is = cc
at_position_within xs (suc k) x is = let lt = slice_get_within xs k x is in (omega arith, omega arith)

pub at_position_kept : {X : Type 0} (xs ys : List X) (position : ℕ) (x : X) → at_position xs position ≡ Some x → at_position (xs ++ ys) position ≡ Some x
at_position_kept xs ys position x is = at_position-append xs ys position (at_position_within xs position x is).1 ∙ is

pub IsPosition-append : {X : Type 0} (xs ys : List X) (position : ℕ) → IsPosition xs position → IsPosition (xs ++ ys) position
IsPosition-append xs ys position is = (is.0, omega (arith, is.1, length-append xs ys))

pub sequent_at-append : (before more : List PlainLine) (position : ℕ) → IsPosition before position → sequent_at (before ++ more) position ≡ sequent_at before position
sequent_at-append before more position is = ap sequent_of (at_position-append before more position is.1)

-- ---- where lines are appended, and rules

premises_kept : (before more : List PlainLine) (cited : List Cited) → All (λ c. IsPosition before c.line) cited → map (premise_at (before ++ more)) cited ≡ map (premise_at before) cited
premises_kept before more [] earlier = refl
premises_kept before more (c ∷ cs) earlier =
    let first : premise_at (before ++ more) c ≡ premise_at before c = ap (λ s. record { sequent = s; terms = c.terms }) (sequent_at-append before more c.line (All-head (λ c. IsPosition before c.line) c cs earlier)) in
    let rest = premises_kept before more cs (All-tail (λ c. IsPosition before c.line) c cs earlier) in
    ap (λ p. p ∷ map (premise_at (before ++ more)) cs) first ∙ ap (λ ps. premise_at before c ∷ ps) rest

-- a reason still holds where rules and lines are appended
pub reason_kept : (n : ℕ) (rules more_rules : List PlainRule) (before more : List PlainLine) (conclusion : List SignedFormula) (reason : Reason) → IsReasonFor n rules before conclusion reason → IsReasonFor n (rules ++ more_rules) (before ++ more) conclusion reason
reason_kept n rules more_rules before more conclusion Axiom holds = holds
reason_kept n rules more_rules before more conclusion Pending holds = holds
reason_kept n rules more_rules before more conclusion (ByRule position principal premises) holds = record {
  rule = holds.rule;
  stands = at_position_kept rules more_rules position holds.rule holds.stands;
  earlier = All-weaker (λ c. IsPosition before c.line) (λ c. IsPosition (before ++ more) c.line) (λ c is. IsPosition-append before more c.line is) premises holds.earlier;
  step = subst (IsRuleStep holds.rule principal conclusion) (sym (premises_kept before more premises holds.earlier)) holds.step;
}
reason_kept n rules more_rules before more conclusion (Resolve f left right) holds = record {
  left_earlier = IsPosition-append before more left holds.left_earlier;
  right_earlier = IsPosition-append before more right holds.right_earlier;
  step =
      subst (λ l. IsResolvent f l (sequent_at (before ++ more) right) conclusion) (sym (sequent_at-append before more left holds.left_earlier))
      (subst (λ r. IsResolvent f (sequent_at before left) r conclusion) (sym (sequent_at-append before more right holds.right_earlier)) holds.step);
}

-- a step stays one where rules and lines are appended
pub step_kept : (n : ℕ) (rules more_rules : List PlainRule) (before more : List PlainLine) (line : PlainLine) → IsStep n rules before line → IsStep n (rules ++ more_rules) (before ++ more) line
step_kept n rules more_rules before more line is = reason_kept n rules more_rules before more line.sequent line.reason is

-- the same with rules alone
pub step_by_more_rules : (n : ℕ) (rules more_rules : List PlainRule) (before : List PlainLine) (line : PlainLine) → IsStep n rules before line → IsStep n (rules ++ more_rules) before line
step_by_more_rules n rules more_rules before line is = subst (λ lines. IsStep n (rules ++ more_rules) lines line) (append-nil before) (step_kept n rules more_rules before [] line is)

pub steps_by_more_rules : (n : ℕ) (rules more_rules : List PlainRule) (before lines : List PlainLine) → AreSteps n rules before lines → AreSteps n (rules ++ more_rules) before lines
steps_by_more_rules n rules more_rules before [] are = are
steps_by_more_rules n rules more_rules before (line ∷ lines) are =
    (step_by_more_rules n rules more_rules before line are.0, steps_by_more_rules n rules more_rules (before ++ line ∷ []) lines are.1)

-- steps, and further steps behind them
pub steps-append : (n : ℕ) (rules : List PlainRule) (before lines more : List PlainLine) → AreSteps n rules before lines → AreSteps n rules (before ++ lines) more → AreSteps n rules before (lines ++ more)
steps-append n rules before [] more are then = subst (λ lines. AreSteps n rules lines more) (append-nil before) then
steps-append n rules before (line ∷ lines) more are then =
    (are.0, steps-append n rules (before ++ line ∷ []) lines more are.1 (subst (λ all. AreSteps n rules all more) (sym (append_assoc before (line ∷ []) lines)) then))

pub steps-push : (n : ℕ) (rules : List PlainRule) (before lines : List PlainLine) (line : PlainLine) → AreSteps n rules before lines → IsStep n rules (before ++ lines) line → AreSteps n rules before (lines ++ line ∷ [])
steps-push n rules before lines line are is = steps-append n rules before lines (line ∷ []) are (is, tt)

-- the line at each place is a step, given those before it
pub step-at : (n : ℕ) (rules : List PlainRule) (before lines : List PlainLine) (at : ℕ) (line : PlainLine) → AreSteps n rules before lines → slice_get lines at ≡ Some line → IsStep n rules (before ++ take at lines) line
step-at n rules before [] at line are is = cc
step-at n rules before (x ∷ lines) zero line are is =
    let same : x ≡ line = cc in
    subst (λ all. IsStep n rules all line) (sym (append-nil before)) (subst (IsStep n rules before) same are.0)
step-at n rules before (x ∷ lines) (suc at) line are is =
    subst (λ all. IsStep n rules all line) (append_assoc before (x ∷ []) (take at lines)) (step-at n rules (before ++ x ∷ []) lines at line are.1 is)

-- and steps are so, place by place
pub steps_from : (n : ℕ) (rules : List PlainRule) (before lines : List PlainLine) → ((at : ℕ) (line : PlainLine) → slice_get lines at ≡ Some line → IsStep n rules (before ++ take at lines) line) → AreSteps n rules before lines
steps_from n rules before [] each = tt
steps_from n rules before (x ∷ lines) each = (
  subst (λ all. IsStep n rules all x) (append-nil before) (each zero x refl),
  steps_from n rules (before ++ x ∷ []) lines (λ at line is. subst (λ all. IsStep n rules all line) (sym (append_assoc before (x ∷ []) (take at lines))) (each (suc at) line is)),
)

-- ---- steps by the rules of operators

included_step : (f : Formula) (v : ℕ) (x : SignedFormula) (xs others : List SignedFormula) (b : Bool) → same_formula f x.formula ≡ b → list_all (has (sign_in others x.formula)) x.sign ≡ true → (has (sign_in xs f) v ≡ true → has (sign_in others f) v ≡ true)
    → has (cond b x.sign (sign_in xs f)) v ≡ true → has (sign_in others f) v ≡ true
included_step f v x xs others true test all rest member =
    ap (λ g. has (sign_in others g) v) ((same_formula-Decides f x.formula).0 test) ∙ list_all-has (has (sign_in others x.formula)) x.sign v all member
included_step f v x xs others false test all rest member = rest member

-- the sign of a formula lies in its sign in a sequent that includes this one
pub has-included : (items others : List SignedFormula) (f : Formula) (v : ℕ) → is_included items others ≡ true → has (sign_in items f) v ≡ true → has (sign_in others f) v ≡ true
has-included [] others f v included member = cc
has-included (x ∷ xs) others f v included member =
    let parts = and_parts (list_all (has (sign_in others x.formula)) x.sign) (is_included xs others) included in
    included_step f v x xs others (same_formula f x.formula) refl parts.0 (has-included xs others f v parts.1) member

-- what is allowed stays so where the conclusion's signs grow
are_allowed_grown : (conclusion greater auxiliary items : List SignedFormula) → is_included conclusion greater ≡ true → are_allowed conclusion auxiliary items ≡ true → are_allowed greater auxiliary items ≡ true
are_allowed_grown conclusion greater auxiliary items included allowed =
    let grown : (f : Formula) (v : ℕ) → (has (sign_in conclusion f) v || carries auxiliary f v) ≡ true → (has (sign_in greater f) v || carries auxiliary f v) ≡ true = λ f v is.
    ⊎_elim
    (λ there. or_left (has (sign_in greater f) v) (carries auxiliary f v) (has-included conclusion greater f v included there))
    (λ there. or_right (has (sign_in greater f) v) (carries auxiliary f v) there)
    (or_cases (has (sign_in conclusion f) v) (carries auxiliary f v) is) in
    list_all_weaker (λ item. list_all (λ v. has (sign_in conclusion item.formula) v || carries auxiliary item.formula v) item.sign) (λ item. list_all (λ v. has (sign_in greater item.formula) v || carries auxiliary item.formula v) item.sign)
    (λ item all. list_all_weaker (λ v. has (sign_in conclusion item.formula) v || carries auxiliary item.formula v) (λ v. has (sign_in greater item.formula) v || carries auxiliary item.formula v) (grown item.formula) item.sign all)
    items allowed

no_eigenvariables : (conclusion : List SignedFormula) → AreEigenvariables conclusion []
no_eigenvariables conclusion = record { names = []; variables = refl; differ = λ i j d lt within. absurd (omega arith); fresh = All-nil (λ x. All (λ item. free x item.formula ≡ false) conclusion) }

operator_premise : (op : ℕ) (principal : Formula) (conclusion : List SignedFormula) (sets : List (List ℕ)) (premise : Premise) → premise.terms ≡ [] → are_allowed conclusion (auxiliary_formulas (operator op) sets principal premise.terms) premise.sequent ≡ true → IsPremise (operator op) principal conclusion sets premise
operator_premise op principal conclusion sets premise none allowed = record { terms = ap length none; eigenvariables = no_eigenvariables conclusion; allowed = allowed }

no_terms : {X : Type 0} (xs : List X) → length xs ≡ 0 → xs ≡ []
no_terms [] none = refl
no_terms (x ∷ xs) none = absurd (omega arith)

-- a step by an operator's rule stays one where the conclusion's signs grow, and formulas are added
pub operator_step_grown : (rule : PlainRule) (op : ℕ) (principal : Formula) (conclusion greater : List SignedFormula) (premises : List Premise) → rule.head ≡ operator op → is_included conclusion greater ≡ true → IsRuleStep rule principal conclusion premises → IsRuleStep rule principal greater premises
operator_step_grown rule op principal conclusion greater premises is included step = record {
  compound = step.compound;
  signed = list_all_weaker (has (sign_in conclusion principal)) (has (sign_in greater principal)) (λ v. has-included conclusion greater principal v included) rule.sign step.signed;
  each = subst (λ head. AllZip (IsPremise head principal greater) rule.clauses premises) (sym is)
      (AllZip-weaker (IsPremise (operator op) principal conclusion) (IsPremise (operator op) principal greater)
      (λ sets premise right. operator_premise op principal greater sets premise (no_terms premise.terms right.terms) (are_allowed_grown conclusion greater (auxiliary_formulas (operator op) sets principal premise.terms) premise.sequent included right.allowed))
      rule.clauses premises (subst (λ head. AllZip (IsPremise head principal conclusion) rule.clauses premises) is step.each));
}

-- a step by an operator's rule, from the sequents of its premises
pub operator_step : (rule : PlainRule) (op : ℕ) (args : List Formula) (conclusion : List SignedFormula) (sequents : List (List SignedFormula)) → rule.head ≡ operator op → list_all (has (sign_in conclusion (Op op args))) rule.sign ≡ true
    → AllZip (λ sets sequent. are_allowed conclusion (with_signs sets args) sequent ≡ true) rule.clauses sequents → IsRuleStep rule (Op op args) conclusion (map without_terms sequents)
operator_step rule op args conclusion sequents is signed each = record {
  compound = ap (λ head. is_compound_of head (Op op args)) is ∙ compound-Op op op args ∙ eq-eqb op op refl;
  signed = signed;
  each = subst (λ head. AllZip (IsPremise head (Op op args) conclusion) rule.clauses (map without_terms sequents)) (sym is)
      (AllZip-map (IsPremise (operator op) (Op op args) conclusion) without_terms rule.clauses sequents
      (AllZip-weaker (λ sets sequent. are_allowed conclusion (with_signs sets args) sequent ≡ true) (λ sets sequent. IsPremise (operator op) (Op op args) conclusion sets (without_terms sequent))
      (λ sets sequent allowed. operator_premise op (Op op args) conclusion sets (without_terms sequent) refl (ap (λ below. are_allowed conclusion (with_signs sets below) sequent) (below-Op op args []) ∙ allowed))
      rule.clauses sequents each));
}
