-- The lines of right derivations.
use Rattle.std.proofs.Common.{◌≡◌, ℕ, zero, suc, ◌+◌, ◌<◌, true, List, [], ◌∷◌, ◌++◌, map, length, take, get_or, refl, sym, ◌∙◌, ap, subst, append-nil, append_assoc, length-append, add-one, arith}
use Rattle.std.specs.Prelude.{Some}
use Rattle.std.specs.List.{All, AllZip, range_with_len}
use Rattle.std.proofs.lemmas.List.Elements.{All-nil, All-cons}
use Rattle.lgc_clauses.specs.Rules.{PlainRule}
use Rattle.lgc_syntax.specs.declared.formula.Formula.{Formula}
use Rattle.lgc_sequents.specs.Signed.{SignedFormula}
use Rattle.lgc_sequents.specs.Sequents.{is_axiom}
use Rattle.lgc_sequents.specs.Lines.{PlainLine, at_position, IsPosition, sequent_of, sequent_at}
use Rattle.lgc_sequents.specs.Steps.{without_terms, IsRuleStep, premise_at, IsReasonFor, IsStep, AreSteps}
use Rattle.lgc_sequents.specs.declared.line.Cited.{Cited}
use Rattle.lgc_sequents.specs.declared.line.Reason.TheVariants as reason
use Rattle.lgc_sequents.proofs.StepLaws.{IsPosition-append, sequent_at-append, steps-append}
use Rattle.lgc_derivations.specs.declared.derivation.Derivation.{Axiom, Step, out-Derivation, fold-Derivation, fold-roll-Derivation}
use Rattle.lgc_derivations.specs.declared.derivation.Derivation.TheVariants.{outs-Axiom, outs-Step, rolls-Axiom, rolls-Step}
use Rattle.lgc_derivations.specs.declared.derivation.Derivation.TheOpen as derivation
use Rattle.lgc_derivations.specs.Derivations.{Tree, conclusion_layer, conclusion_of, IsRight, AreRight, right_axiom, right_step, none_right, more_right}
use Rattle.lgc_derivations.specs.Flattened.{IsAppended, Concludes, IsFlattened, AreFlattened}

-- ---- a right derivation at its root

pub conclusion-Axiom : (conclusion : List SignedFormula) → conclusion_of (Axiom conclusion) ≡ conclusion
unfolding conclusion_of
conclusion-Axiom conclusion = ap (fold-Derivation (List SignedFormula) (List SignedFormula) conclusion_layer) (sym (rolls-Axiom conclusion)) ∙ fold-roll-Derivation (List SignedFormula) (List SignedFormula) conclusion_layer (derivation.Axiom conclusion)

pub conclusion-Step : (conclusion : List SignedFormula) (position : ℕ) (principal : Formula) (premises : List Tree) → conclusion_of (Step conclusion position principal premises) ≡ conclusion
unfolding conclusion_of
conclusion-Step conclusion position principal premises =
    ap (fold-Derivation (List SignedFormula) (List SignedFormula) conclusion_layer) (sym (rolls-Step conclusion position principal premises)) ∙ fold-roll-Derivation (List SignedFormula) (List SignedFormula) conclusion_layer (derivation.Step conclusion position principal premises)

is_axiom_there : (n : ℕ) (rules : List PlainRule) (d : Tree) → IsRight n rules d → (c : List SignedFormula) → d ≡ Axiom c → is_axiom n c ≡ true
is_axiom_there n rules _ (right_axiom b full) c is =
    let roots = sym (outs-Axiom b) ∙ ap (out-Derivation (List SignedFormula)) is ∙ outs-Axiom c in
    let same : b ≡ c = cc in
    ap (is_axiom n) (sym same) ∙ full
is_axiom_there n rules _ (right_step b k p ds r stands step right) c is =
    let roots = sym (outs-Step b k p ds) ∙ ap (out-Derivation (List SignedFormula)) is ∙ outs-Axiom c in
    cc

record IsRightStep (n : ℕ) (rules : List PlainRule) (conclusion : List SignedFormula) (position : ℕ) (principal : Formula) (premises : List Tree) : Type 0 where
  pub rule : PlainRule
  pub stands : at_position rules position ≡ Some rule
  pub step : IsRuleStep rule principal conclusion (map (λ d. without_terms (conclusion_of d)) premises)
  pub right : AreRight n rules premises

is_step_there : (n : ℕ) (rules : List PlainRule) (d : Tree) → IsRight n rules d → (c : List SignedFormula) (k : ℕ) (p : Formula) (ds : List Tree) → d ≡ Step c k p ds → IsRightStep n rules c k p ds
is_step_there n rules _ (right_axiom b full) c k p ds is =
    let roots = sym (outs-Axiom b) ∙ ap (out-Derivation (List SignedFormula)) is ∙ outs-Step c k p ds in
    cc
is_step_there n rules _ (right_step b j o es r stands step right) c k p ds is =
    let roots = sym (outs-Step b j o es) ∙ ap (out-Derivation (List SignedFormula)) is ∙ outs-Step c k p ds in
    let same_conclusion : b ≡ c = cc in
    let same_position : j ≡ k = cc in
    let same_principal : o ≡ p = cc in
    let same_premises : es ≡ ds = cc in
    record {
      rule = r;
      stands = subst (λ i. at_position rules i ≡ Some r) same_position stands;
      step = subst (λ ts. IsRuleStep r p c (map (λ d. without_terms (conclusion_of d)) ts)) same_premises (subst (λ f. IsRuleStep r f c (map (λ d. without_terms (conclusion_of d)) es)) same_principal (subst (λ s. IsRuleStep r o s (map (λ d. without_terms (conclusion_of d)) es)) same_conclusion step));
      right = subst (AreRight n rules) same_premises right;
    }

-- ---- lines behind lines

range-append : (a m k : ℕ) → range_with_len a (m + k) ≡ range_with_len a m ++ range_with_len (a + m) k
range-append a zero k =
    let none : 0 + k ≡ k = omega arith in
    let same : a ≡ a + 0 = omega arith in
    ap (range_with_len a) none ∙ ap (λ b. range_with_len b k) same
range-append a (suc m) k =
    let more : suc m + k ≡ suc (m + k) = omega arith in
    let same : a + 1 + m ≡ a + suc m = omega arith in
    ap (range_with_len a) more ∙ ap (λ xs. a ∷ xs) (range-append (a + 1) m k ∙ ap (λ b. range_with_len (a + 1) m ++ range_with_len b k) same)

map-append : (xs ys : List PlainLine) → map (λ line. line.number) (xs ++ ys) ≡ map (λ line. line.number) xs ++ map (λ line. line.number) ys
map-append [] ys = refl
map-append (x ∷ xs) ys = ap (λ numbers. x.number ∷ numbers) (map-append xs ys)

numbers-append : (start : ℕ) (xs ys : List PlainLine) → map (λ line. line.number) xs ≡ range_with_len start (length xs) → map (λ line. line.number) ys ≡ range_with_len (start + length xs) (length ys) → map (λ line. line.number) (xs ++ ys) ≡ range_with_len start (length (xs ++ ys))
numbers-append start xs ys first then =
    map-append xs ys ∙ ap (λ numbers. numbers ++ map (λ line. line.number) ys) first ∙ ap (λ numbers. range_with_len start (length xs) ++ numbers) then
    ∙ sym (range-append start (length xs) (length ys)) ∙ ap (range_with_len start) (sym (length-append xs ys))

-- lines that were appended, and then others
appended-append : (n : ℕ) (P Q R : List PlainRule → Type 0) (old mid new : List PlainLine) → ((rules : List PlainRule) → R rules → P rules) → ((rules : List PlainRule) → R rules → Q rules)
    → IsAppended n P old mid → IsAppended n Q mid new → IsAppended n R old new
appended-append n P Q R old mid new first then a b = record {
  more = a.more ++ b.more;
  is = b.is ∙ ap (λ lines. lines ++ b.more) a.is ∙ append_assoc old a.more b.more;
  numbers =
      let start : length mid + 1 ≡ length old + 1 + length a.more = omega (arith, ap length a.is, length-append old a.more) in
      numbers-append (length old + 1) a.more b.more a.numbers (b.numbers ∙ ap (λ k. range_with_len k (length b.more)) start);
  steps = λ rules right. steps-append n rules old a.more b.more (a.steps rules (first rules right)) (subst (λ lines. AreSteps n rules lines b.more) a.is (b.steps rules (then rules right)));
}

none-appended : (n : ℕ) (P : List PlainRule → Type 0) (old : List PlainLine) → IsAppended n P old old
none-appended n P old = record { more = []; is = sym (append-nil old); numbers = refl; steps = λ rules right. tt }

one-appended : (n : ℕ) (P : List PlainRule → Type 0) (old new : List PlainLine) (line : PlainLine) → new ≡ old ++ line ∷ [] → line.number ≡ length old + 1 → ((rules : List PlainRule) → P rules → IsStep n rules old line) → IsAppended n P old new
one-appended n P old new line is number step = record {
  more = line ∷ [];
  is = is;
  numbers = ap (λ k. k ∷ []) number;
  steps = λ rules right. (step rules right, tt);
}

-- ---- the last line

last-there : (old : List PlainLine) (line : PlainLine) → at_position (old ++ line ∷ []) (suc (length old)) ≡ Some line
last-there [] line = refl
last-there (x ∷ old) line = last-there old line

last-concludes : (d : Tree) (old new : List PlainLine) (line : PlainLine) (position : ℕ) → new ≡ old ++ line ∷ [] → position ≡ length old + 1 → line.sequent ≡ conclusion_of d → Concludes new d position
last-concludes d old new line position is at sequent =
    let long : length new ≡ length old + 1 = ap length is ∙ length-append old (line ∷ []) in
    let there : position ≡ suc (length old) = omega (arith, at) in
    record {
      stands = (omega (arith, at), omega (arith, at, long));
      sequent = ap (λ lines. sequent_at lines position) is ∙ ap (λ k. sequent_at (old ++ line ∷ []) k) there ∙ ap sequent_of (last-there old line) ∙ sequent;
    }

concludes_kept : (lines more : List PlainLine) (d : Tree) (position : ℕ) → Concludes lines d position → Concludes (lines ++ more) d position
concludes_kept lines more d position is = record { stands = IsPosition-append lines more position is.stands; sequent = sequent_at-append lines more position is.stands ∙ is.sequent }

-- ---- cited lines

abbrev Cites : List PlainLine → List Tree → List Cited → Type 0
Cites lines ds cited = AllZip (λ d c. Concludes lines d c.line × (c.terms ≡ [])) ds cited

cites_kept : (lines more : List PlainLine) (ds : List Tree) (cited : List Cited) → Cites lines ds cited → Cites (lines ++ more) ds cited
cites_kept lines more [] [] are = are
cites_kept lines more [] (c ∷ cs) are = absurd are
cites_kept lines more (d ∷ ds) [] are = absurd are
cites_kept lines more (d ∷ ds) (c ∷ cs) are = ((concludes_kept lines more d c.line are.0.0, are.0.1), cites_kept lines more ds cs are.1)

cites-push : (lines : List PlainLine) (ds : List Tree) (cited : List Cited) (d : Tree) (c : Cited) → Cites lines ds cited → Concludes lines d c.line → c.terms ≡ [] → Cites lines (ds ++ d ∷ []) (cited ++ c ∷ [])
cites-push lines [] [] d c are is none = ((is, none), tt)
cites-push lines [] (x ∷ xs) d c are is none = absurd are
cites-push lines (e ∷ es) [] d c are is none = absurd are
cites-push lines (e ∷ es) (x ∷ xs) d c are is none = (are.0, cites-push lines es xs d c are.1 is none)

cites-positions : (lines : List PlainLine) (ds : List Tree) (cited : List Cited) → Cites lines ds cited → All (λ c. IsPosition lines c.line) cited
cites-positions lines [] [] are = All-nil (λ c. IsPosition lines c.line)
cites-positions lines [] (c ∷ cs) are = absurd are
cites-positions lines (d ∷ ds) [] are = absurd are
cites-positions lines (d ∷ ds) (c ∷ cs) are = All-cons (λ c. IsPosition lines c.line) c cs are.0.0.stands (cites-positions lines ds cs are.1)

cites-premises : (lines : List PlainLine) (ds : List Tree) (cited : List Cited) → Cites lines ds cited → map (premise_at lines) cited ≡ map (λ d. without_terms (conclusion_of d)) ds
cites-premises lines [] [] are = refl
cites-premises lines [] (c ∷ cs) are = absurd are
cites-premises lines (d ∷ ds) [] are = absurd are
cites-premises lines (d ∷ ds) (c ∷ cs) are =
    let first : premise_at lines c ≡ without_terms (conclusion_of d) = ap (λ s. record { sequent = s; terms = c.terms }) are.0.0.sequent ∙ ap (λ terms. record { sequent = conclusion_of d; terms = terms }) are.0.1 in
    ap (λ p. p ∷ map (premise_at lines) cs) first ∙ ap (λ ps. without_terms (conclusion_of d) ∷ ps) (cites-premises lines ds cs are.1)

-- ---- a derivation

pub axiom_flattened : (n : ℕ) (d : Tree) (old new : List PlainLine) (line : PlainLine) (c : List SignedFormula) (position : ℕ) → d ≡ Axiom c → new ≡ old ++ line ∷ [] → position ≡ length old + 1 → line.number ≡ position → line.sequent ≡ c → line.reason ≡ reason.Axiom → IsFlattened n d old new position
axiom_flattened n d old new line c position root is at number sequent why = record {
  appended = one-appended n (λ rules. IsRight n rules d) old new line is (number ∙ at) (λ rules right. subst (IsReasonFor n rules old line.sequent) (sym why) (ap (is_axiom n) sequent ∙ is_axiom_there n rules d right c root));
  concludes = last-concludes d old new line position is at (sequent ∙ sym (ap conclusion_of root ∙ conclusion-Axiom c));
  last = at ∙ sym (ap length is ∙ length-append old (line ∷ []));
}

pub step_flattened : (n : ℕ) (d : Tree) (old mid new : List PlainLine) (line : PlainLine) (c : List SignedFormula) (k : ℕ) (p : Formula) (ds : List Tree) (cited : List Cited) (position : ℕ) → d ≡ Step c k p ds → AreFlattened n ds old mid cited
    → new ≡ mid ++ line ∷ [] → position ≡ length mid + 1 → line.number ≡ position → line.sequent ≡ c → line.reason ≡ reason.ByRule k p cited → IsFlattened n d old new position
step_flattened n d old mid new line c k p ds cited position root premises is at number sequent why = record {
  appended = appended-append n (λ rules. AreRight n rules ds) (λ rules. IsRight n rules d) (λ rules. IsRight n rules d) old mid new (λ rules right. (is_step_there n rules d right c k p ds root).right) (λ rules right. right) premises.appended
      (one-appended n (λ rules. IsRight n rules d) mid new line is (number ∙ at) the_step);
  concludes = last-concludes d mid new line position is at (sequent ∙ sym (ap conclusion_of root ∙ conclusion-Step c k p ds));
  last = at ∙ sym (ap length is ∙ length-append mid (line ∷ []));
}
  where
    the_step : (rules : List PlainRule) → IsRight n rules d → IsStep n rules mid line
    the_step rules right =
        let there = is_step_there n rules d right c k p ds root in
        let by : IsReasonFor n rules mid c (reason.ByRule k p cited) = record {
          rule = there.rule;
          stands = there.stands;
          earlier = cites-positions mid ds cited premises.concludes;
          step = subst (IsRuleStep there.rule p c) (sym (cites-premises mid ds cited premises.concludes)) there.step;
        } in
        subst (IsReasonFor n rules mid line.sequent) (sym why) (subst (λ s. IsReasonFor n rules mid s (reason.ByRule k p cited)) (sym sequent) by)

-- ---- several derivations

pub none_flattened : (n : ℕ) (old : List PlainLine) → AreFlattened n [] old old []
none_flattened n old = record { appended = none-appended n (λ rules. AreRight n rules []) old; concludes = tt }

right-split : (n : ℕ) (rules : List PlainRule) (ds : List Tree) (d : Tree) (all : List Tree) → all ≡ ds ++ d ∷ [] → AreRight n rules all → AreRight n rules ds × IsRight n rules d
right-split n rules [] d _ is none_right = cc
right-split n rules (x ∷ ds) d _ is none_right = cc
right-split n rules [] d _ is (more_right e es first rest) = let same : e ≡ d = cc in (none_right, subst (IsRight n rules) same first)
right-split n rules (x ∷ ds) d _ is (more_right e es first rest) =
    let same : e ≡ x = cc in
    let behind : es ≡ ds ++ d ∷ [] = cc in
    let parts = right-split n rules ds d es behind rest in
    (more_right x ds (subst (IsRight n rules) same first) parts.0, parts.1)

take_more : (ds : List Tree) (i : ℕ) (d : Tree) → i < length ds → d ≡ get_or ds i d → take (i + 1) ds ≡ take i ds ++ d ∷ []
take_more ds i d within is = rw add-one (more ds i within ∙ ap (λ e. take i ds ++ e ∷ []) (sym is))
  where
    more : (es : List Tree) (j : ℕ) → j < length es → take (suc j) es ≡ take j es ++ get_or es j d ∷ []
    more [] j lt = absurd (omega arith)
    more (e ∷ es) zero lt = refl
    more (e ∷ es) (suc j) lt = ap (λ rest. e ∷ rest) (more es j (omega arith))

pub more_flattened : (n : ℕ) (ds : List Tree) (i : ℕ) (d : Tree) (old mid new : List PlainLine) (cited : List Cited) (c : Cited) → i < length ds → d ≡ get_or ds i d → AreFlattened n (take i ds) old mid cited → IsFlattened n d mid new c.line → c.terms ≡ []
    → AreFlattened n (take (i + 1) ds) old new (cited ++ c ∷ [])
more_flattened n ds i d old mid new cited c within is a b none = subst (λ es. AreFlattened n es old new (cited ++ c ∷ [])) (sym (take_more ds i d within is)) (record {
  appended = appended-append n (λ rules. AreRight n rules (take i ds)) (λ rules. IsRight n rules d) (λ rules. AreRight n rules (take i ds ++ d ∷ [])) old mid new
      (λ rules right. (right-split n rules (take i ds) d (take i ds ++ d ∷ []) refl right).0) (λ rules right. (right-split n rules (take i ds) d (take i ds ++ d ∷ []) refl right).1) a.appended b.appended;
  concludes = cites-push new (take i ds) cited d c (subst (λ lines. Cites lines (take i ds) cited) (sym b.appended.is) (cites_kept mid b.appended.more (take i ds) cited a.concludes)) b.concludes none;
})

-- ---- what stands before stays

pub kept_here : (lines : List PlainLine) → take (length lines) lines ≡ lines
kept_here [] = refl
kept_here (x ∷ lines) = ap (λ rest. x ∷ rest) (kept_here lines)

pub kept_on : (old mid new : List PlainLine) → take (length old) mid ≡ old → take (length mid) new ≡ mid → take (length old) new ≡ old
kept_on [] mid new first then = refl
kept_on (x ∷ old) [] new first then = cc
kept_on (x ∷ old) (y ∷ mid) [] first then = cc
kept_on (x ∷ old) (y ∷ mid) (z ∷ new) first then =
    let head : z ≡ x = cc in
    let first_rest : take (length old) mid ≡ old = cc in
    let then_rest : take (length mid) new ≡ mid = cc in
    ap (λ w. w ∷ take (length old) new) head ∙ ap (λ lines. x ∷ lines) (kept_on old mid new first_rest then_rest)
