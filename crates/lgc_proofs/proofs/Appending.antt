-- Lines that are appended: where the lines of lemmas stay, and that a line with a lemma's reason is a step from lighter lines.
use Rattle.std.proofs.Common.{◌≡◌, ℕ, zero, suc, ◌+◌, ◌-◌, ◌<◌, ◌≤◌, true, List, [], ◌∷◌, ◌++◌, length, map, take, drop, get_or, slice_get, Some, Ok, Err, inl, inr, sym, ◌∙◌, ap, subst, arith, append-nil, append_assoc}
use Rattle.std.specs.Prelude.{All, Any, IsPermutation, Result, IfOk, OnErr}
use Rattle.std.proofs.lemmas.List.{length-take, take-append-drop, get_or_default}
use Rattle.std.proofs.lemmas.List.Elements.{All-nil, All-cons, All-append, All-map, All-take, All-weaker}
use Rattle.std.proofs.lemmas.List.Sorted.{sum_by-IsPermutation}
use Rattle.std.proofs.lemmas.Option.{slice_get_within}
use Rattle.lgc_values.specs.Logic.{Logic}
use Rattle.lgc_clauses.specs.Rules.{OperatorRule, PlainRule, of_operator}
use Rattle.lgc_syntax.specs.declared.formula.Formula.{Formula}
use Rattle.lgc_syntax.specs.Sizes as syntax
use Rattle.lgc_syntax.specs.Subformulas.{IsSubformula, itself}
use Rattle.lgc_sequents.specs.Signed.{SignedFormula}
use Rattle.lgc_sequents.specs.Sequents.{is_included}
use Rattle.lgc_sequents.specs.Lines.{PlainLine, IsPosition, sequent_at, formulas_of, named_by}
use Rattle.lgc_sequents.specs.Rests.{cited_by}
use Rattle.lgc_sequents.specs.Steps.{IsReasonFor, AreSteps}
use Rattle.lgc_sequents.specs.Steps.{IsStep as IsLineStep}
use Rattle.lgc_sequents.specs.declared.line.Reason.{Reason as LineReason}
use Rattle.lgc_sequents.specs.declared.line.Reason.TheVariants as of_line
use Rattle.lgc_sequents.proofs.StepLaws.{IsPosition-append, sequent_at-append, steps-append}
use Rattle.lgc_calculus.specs.RuleBook.{IsRightBook}
use Rattle.lgc_numbering.specs.declared.node.Node.{Node}
use Rattle.lgc_numbering.specs.declared.node.Node.TheVariants.{Compound}
use Rattle.lgc_numbering.specs.Numbering.{formula_at}
use Rattle.lgc_numbering.proofs.NumberingLaws.{at-formula_at}
use Rattle.lgc_packed.specs.Packed.{IsPacked, unpacked}
use Rattle.lgc_packed.specs.Packing.{AreKnown}
use Rattle.lgc_lemmas.specs.declared.lemma.Reason.{Reason}
use Rattle.lgc_lemmas.specs.declared.lemma.Reason.TheVariants as of_lemma
use Rattle.lgc_lemmas.specs.Plain.{PlainLemma}
use Rattle.lgc_lemmas.specs.Nodes.{HasNumbersBelow}
use Rattle.lgc_lemmas.specs.Steps.{IsReason, IsStep}
use Rattle.lgc_lemmas.specs.Steps.{AreSteps as AreLemmaSteps}
use Rattle.lgc_lemmas.specs.Citations.{IsLighter}
use Rattle.lgc_lemmas.proofs.Citations.{cited_lighter}
use Rattle.lgc_lemmas.proofs.StepLaws.{slice_get-append, grown_same}
use Rattle.lgc_lemmas.proofs.Truth.{all_at}
use Rattle.lgc_decision.specs.Decided.{AreSubformulasOf, AreLemmas}
use Rattle.lgc_proofs.specs.Proofs.{IsOneMore, IsLineFor}
use Rattle.lgc_proofs.specs.Reasons.{IsPlainReason}
use Rattle.lgc_proofs.specs.Found.{operators, CitesLighter, AreAppended}
use Rattle.lgc_proofs.specs.Writing.{number_named_by, places_cited_by, CiteEarlier, cited_line, line_reason, HasLine}
use Rattle.lgc_decision.proofs.Formed.{all_formed}
use Rattle.lgc_proofs.proofs.LineSteps.{included-unpacked, line_step}
use Rattle.lgc_proofs.proofs.Operators.{operators_at, operators-unpacked, operators_fall, operators_included}

-- ---- further lines

cited_positions : (n : ℕ) (rules : List PlainRule) (before : List PlainLine) (conclusion : List SignedFormula) (reason : LineReason) → IsReasonFor n rules before conclusion reason → All (IsPosition before) (cited_by reason)
cited_positions n rules before conclusion of_line.Axiom holds = All-nil (IsPosition before)
cited_positions n rules before conclusion of_line.Pending holds = All-nil (IsPosition before)
cited_positions n rules before conclusion (of_line.ByRule position principal premises) holds = All-map (IsPosition before) (λ cited. cited.line) premises holds.earlier
cited_positions n rules before conclusion (of_line.Resolve f left right) holds = All-cons (IsPosition before) left (right ∷ []) holds.left_earlier (All-cons (IsPosition before) right [] holds.right_earlier (All-nil (IsPosition before)))

-- steps cite lines that are there
steps_cite : (n : ℕ) (rules : List PlainRule) (before lines : List PlainLine) → AreSteps n rules before lines → All (λ line. All (IsPosition (before ++ lines)) (cited_by line.reason)) lines
steps_cite n rules before [] steps = All-nil (λ line. All (IsPosition (before ++ [])) (cited_by line.reason))
steps_cite n rules before (line ∷ lines) steps =
    All-cons (λ (l : PlainLine). All (IsPosition (before ++ line ∷ lines)) (cited_by l.reason)) line lines
    (All-weaker (IsPosition before) (IsPosition (before ++ line ∷ lines)) (λ position is. IsPosition-append before (line ∷ lines) position is) (cited_by line.reason) (cited_positions n rules before line.sequent line.reason steps.0))
    (subst (λ all. All (λ (l : PlainLine). All (IsPosition all) (cited_by l.reason)) lines) (append_assoc before (line ∷ []) lines) (steps_cite n rules (before ++ line ∷ []) lines steps.1))

sequent_kept : (old more new : List PlainLine) (position : ℕ) → new ≡ old ++ more → IsPosition old position → sequent_at new position ≡ sequent_at old position
sequent_kept old more new position is stands = ap (λ lines. sequent_at lines position) is ∙ sequent_at-append old more position stands

-- a lemma's line stays
pub line_kept : (formulas : List Formula) (lemmas : List PlainLemma) (old more new : List PlainLine) (place position : ℕ) → new ≡ old ++ more → HasLine formulas lemmas old place position → HasLine formulas lemmas new place position
line_kept formulas lemmas old more new place position is has = record {
  stands = subst (λ lines. IsPosition lines position) (sym is) (IsPosition-append old more position has.stands);
  same = λ l here. subst (λ items. IsPermutation items (unpacked formulas l.sequent)) (sym (sequent_kept old more new position is has.stands)) (has.same l here);
}

module _ (logic : Logic) (rules : List OperatorRule) (goal : List SignedFormula) where
  pub appended_none : (lines : List PlainLine) → AreAppended logic rules goal lines lines
  appended_none lines = record {
    more = [];
    is = sym (append-nil lines);
    steps = tt;
    plain = All-nil (λ line. IsPlainReason line.reason);
    parts = All-nil (λ line. AreSubformulasOf goal (formulas_of line));
    lighter = All-nil (CitesLighter lines);
  }

  -- what was appended, and what was appended behind it
  pub appended_more : (old mid new : List PlainLine) → AreAppended logic rules goal old mid → AreAppended logic rules goal mid new → AreAppended logic rules goal old new
  appended_more old mid new first next = record {
    more = first.more ++ next.more;
    is = next.is ∙ ap (λ lines. lines ++ next.more) first.is ∙ append_assoc old first.more next.more;
    steps = steps-append logic.size (map of_operator rules) old first.more next.more first.steps (subst (λ lines. AreSteps logic.size (map of_operator rules) lines next.more) first.is next.steps);
    plain = All-append (λ (line : PlainLine). IsPlainReason line.reason) first.more next.more first.plain next.plain;
    parts = All-append (λ (line : PlainLine). AreSubformulasOf goal (formulas_of line)) first.more next.more first.parts next.parts;
    lighter = All-append (CitesLighter new) first.more next.more (λ i d l. still_lighter (get_or first.more i d) (steps_cite logic.size (map of_operator rules) old first.more first.steps i d l) (first.lighter i d l)) next.lighter;
  }
    where
      still_lighter : (line : PlainLine) → All (IsPosition (old ++ first.more)) (cited_by line.reason) → CitesLighter mid line → CitesLighter new line
      still_lighter line there lighter i d l =
          let position = get_or (cited_by line.reason) i d in
          subst (λ items. operators items < operators line.sequent) (sym (sequent_kept mid next.more new position next.is (subst (λ lines. IsPosition lines position) (sym first.is) (there i d l)))) (lighter i d l)

-- what holds of lines that stay as they are
pub ruleset unchanged_laws = (appended_none, grown_same)

-- ---- formulas with numbers
module _ (P : Formula → Type 0) (formulas : List Formula) (all : All P formulas) where
  pub formula_within : (k : ℕ) → k < length formulas → P (formula_at formulas k)
  formula_within k l = all_at P formulas k (formula_at formulas k) all (at-formula_at formulas k l)

  pub unpacked_within : (pairs : List (ℕ × List ℕ)) → AreKnown formulas pairs → All (λ item. P item.formula) (unpacked formulas pairs)
  unpacked_within pairs known = All-map (λ (item : SignedFormula). P item.formula) (λ pair. record { formula = formula_at formulas pair.0; sign = pair.1 }) pairs (λ i d l. formula_within (get_or pairs i d).0 (known i d l))

-- a goal's formulas are its own subformulas
pub own_subformulas : (goal : List SignedFormula) → AreSubformulasOf goal (map (λ item. item.formula) goal)
own_subformulas goal = All-map (λ f. Any (λ item. IsSubformula f item.formula) goal) (λ item. item.formula) goal (λ i d l. (i, get_or goal i d, l, get_or_default goal i (get_or goal i d) d l, itself))

-- ---- what a lemma cites
step_of_lemma : (logic : Logic) (nodes : List Node) (rules : List OperatorRule) (before lemmas : List PlainLemma) (place : ℕ) (l : PlainLemma) → AreLemmaSteps logic nodes rules before lemmas → slice_get lemmas place ≡ Some l → IsStep logic nodes rules (before ++ take place lemmas) l
step_of_lemma logic nodes rules before [] place l steps here = cc
step_of_lemma logic nodes rules before (x ∷ lemmas) zero l steps here =
    let same : x ≡ l = cc in
    subst (λ all. IsStep logic nodes rules all l) (sym (append-nil before)) (subst (IsStep logic nodes rules before) same steps.0)
step_of_lemma logic nodes rules before (x ∷ lemmas) (suc place) l steps here =
    subst (λ all. IsStep logic nodes rules all l) (append_assoc before (x ∷ []) (take place lemmas)) (step_of_lemma logic nodes rules (before ++ x ∷ []) lemmas place l steps.1 here)

taken_there : {X : Type 0} (xs : List X) (n i : ℕ) (x : X) → slice_get (take n xs) i ≡ Some x → slice_get xs i ≡ Some x
taken_there xs n i x here = subst (λ all. slice_get all i ≡ Some x) (take-append-drop n xs) (slice_get-append (take n xs) (drop n xs) i x here)

module _ (logic : Logic) (rules : List OperatorRule) (right : IsRightBook logic rules) (formulas : List Formula) (lemmas : List PlainLemma) (are : AreLemmas logic rules formulas lemmas) where
  formed : All (λ l. IsPacked logic.size l.sequent × HasNumbersBelow (length are.nodes) l.sequent) lemmas
  formed = all_formed logic are.nodes rules [] lemmas (All-nil (λ (l : PlainLemma). IsPacked logic.size l.sequent × HasNumbersBelow (length are.nodes) l.sequent)) are.steps

  module _ (place : ℕ) (l : PlainLemma) (here : slice_get lemmas place ≡ Some l) where
    abbrev before : List PlainLemma
    before = take place lemmas

    step : IsStep logic are.nodes rules before l
    step = step_of_lemma logic are.nodes rules [] lemmas place l are.steps here

    formed_before : All (λ x. IsPacked logic.size x.sequent × HasNumbersBelow (length are.nodes) x.sequent) before
    formed_before = All-take (λ (x : PlainLemma). IsPacked logic.size x.sequent × HasNumbersBelow (length are.nodes) x.sequent) place lemmas formed

    cites_lighter : All (IsLighter (operators_at formulas) before l.sequent) (places_cited_by l.reason)
    cites_lighter = by l.reason step.reason
      where
        by : (reason : Reason) → IsReason logic are.nodes rules before l.sequent reason → All (IsLighter (operators_at formulas) before l.sequent) (places_cited_by reason)
        by of_lemma.Axiom full = All-nil (IsLighter (operators_at formulas) before l.sequent)
        by (of_lemma.ByRule number principal cited) is = cited_lighter logic are.nodes rules right.signs before (λ i d w. (formed_before i d w).0) l.sequent step.packed number principal cited is (operators_at formulas) (operators_fall formulas are.nodes are.are)

    pub sequent_known : AreKnown formulas l.sequent
    sequent_known = subst (λ count. All (λ (pair : ℕ × List ℕ). pair.0 < count) l.sequent) are.are.count step.numbers

    pub sequent_packed : IsPacked logic.size l.sequent
    sequent_packed = step.packed

    pub principal_known : All (λ number. number < length formulas) (number_named_by l.reason)
    principal_known = by l.reason step.reason
      where
        by : (reason : Reason) → IsReason logic are.nodes rules before l.sequent reason → All (λ number. number < length formulas) (number_named_by reason)
        by of_lemma.Axiom full = All-nil (λ number. number < length formulas)
        by (of_lemma.ByRule number principal cited) is =
            All-cons (λ k. k < length formulas) principal [] (subst (λ count. principal < count) are.are.count (slice_get_within are.nodes principal (Compound is.rule.op is.arguments) is.compound)) (All-nil (λ k. k < length formulas))

  pub cite_earlier : CiteEarlier lemmas
  cite_earlier place l here =
      All-weaker (IsLighter (operators_at formulas) (take place lemmas) l.sequent) (λ cited. cited < place) (λ cited is. omega (arith, slice_get_within (take place lemmas) cited is.lemma is.is, length-take place lemmas)) (places_cited_by l.reason) (cites_lighter place l here)

  -- ---- a line with a lemma's reason, where the lemmas that it cites have their lines at these positions
  module _ (place : ℕ) (l : PlainLemma) (here : slice_get lemmas place ≡ Some l) (old : List PlainLine) (position : ℕ → ℕ) (each : All (λ cited. HasLine formulas lemmas old cited (position cited)) (places_cited_by l.reason))
      (conclusion : List SignedFormula) (included : is_included (unpacked formulas l.sequent) conclusion ≡ true) (most : operators (unpacked formulas l.sequent) ≤ operators conclusion) where
    abbrev reason : LineReason
    reason = line_reason formulas position l.reason

    abbrev added : PlainLine
    added = record { number = length old + 1; sequent = conclusion; reason = reason }

    is_step : IsLineStep logic.size (map of_operator rules) old added
    is_step = line_step logic formulas are.nodes are.are are.numbering rules right.signs (take place lemmas) (formed_before place l here) old position l (step place l here)
        (λ i d w. before_line (get_or (places_cited_by l.reason) i d) (each i d w)) (length old + 1) conclusion included
      where
        before_line : (cited : ℕ) → HasLine formulas lemmas old cited (position cited) → HasLine formulas (take place lemmas) old cited (position cited)
        before_line cited has = record { stands = has.stands; same = λ x there. has.same x (taken_there lemmas place cited x there) }

    -- the line of a cited lemma is lighter
    one_lighter : (cited : ℕ) → IsLighter (operators_at formulas) (take place lemmas) l.sequent cited → HasLine formulas lemmas old cited (position cited) → (new more : List PlainLine) → new ≡ old ++ more → operators (sequent_at new (position cited)) < operators conclusion
    one_lighter cited lighter has new more is =
        let items = sequent_at old (position cited) in
        let moved : IsPermutation items (unpacked formulas lighter.lemma.sequent) = has.same lighter.lemma (taken_there lemmas place cited lighter.lemma lighter.is) in
        let same : operators (unpacked formulas lighter.lemma.sequent) ≡ operators items = sum_by-IsPermutation (λ (item : SignedFormula). syntax.operators item.formula) items (unpacked formulas lighter.lemma.sequent) moved in
        subst (λ xs. operators xs < operators conclusion) (sym (sequent_kept old more new (position cited) is has.stands))
        (omega (arith, most, same, operators-unpacked formulas lighter.lemma.sequent, operators-unpacked formulas l.sequent, lighter.lighter))

    all_lighter : (new more : List PlainLine) → new ≡ old ++ more → All (λ at. operators (sequent_at new at) < operators conclusion) (cited_by reason)
    all_lighter new more is = by l.reason (cites_lighter place l here) each
      where
        by : (r : Reason) → All (IsLighter (operators_at formulas) (take place lemmas) l.sequent) (places_cited_by r) → All (λ cited. HasLine formulas lemmas old cited (position cited)) (places_cited_by r) → All (λ at. operators (sequent_at new at) < operators conclusion) (cited_by (line_reason formulas position r))
        by of_lemma.Axiom lighter has = All-nil (λ at. operators (sequent_at new at) < operators conclusion)
        by (of_lemma.ByRule number principal cited) lighter has =
            All-map (λ at. operators (sequent_at new at) < operators conclusion) (λ premise. premise.line) (map (cited_line position) cited)
            (All-map (λ premise. operators (sequent_at new premise.line) < operators conclusion) (cited_line position) cited (λ i d w. one_lighter (get_or cited i d) (lighter i d w) (has i d w) new more is))

    is_plain : IsPlainReason reason
    is_plain = by l.reason
      where
        by : (r : Reason) → IsPlainReason (line_reason formulas position r)
        by of_lemma.Axiom = tt
        by (of_lemma.ByRule number principal cited) = tt

    -- the line is appended where it isn't there
    pub appended_one : (goal : List SignedFormula) → AreSubformulasOf goal formulas → AreSubformulasOf goal (map (λ item. item.formula) conclusion) → (new : List PlainLine) → IsOneMore old new conclusion reason → AreAppended logic rules goal old new
    appended_one goal parts own new (inl same) = subst (AreAppended logic rules goal old) (sym same) (appended_none logic rules goal old)
    appended_one goal parts own new (inr more) = record {
      more = added ∷ [];
      is = more;
      steps = (is_step, tt);
      plain = All-cons (λ (line : PlainLine). IsPlainReason line.reason) added [] is_plain (All-nil (λ (line : PlainLine). IsPlainReason line.reason));
      parts = All-cons (λ (line : PlainLine). AreSubformulasOf goal (formulas_of line)) added [] (All-append (λ f. Any (λ item. IsSubformula f item.formula) goal) (map (λ item. item.formula) conclusion) (named_by reason) own (named_parts l.reason (principal_known place l here)))
          (All-nil (λ (line : PlainLine). AreSubformulasOf goal (formulas_of line)));
      lighter = All-cons (CitesLighter new) added [] (all_lighter new (added ∷ []) more) (All-nil (CitesLighter new));
    }
      where
        part : Formula → Type 0
        part f = Any (λ item. IsSubformula f item.formula) goal

        named_parts : (r : Reason) → All (λ number. number < length formulas) (number_named_by r) → All part (named_by (line_reason formulas position r))
        named_parts of_lemma.Axiom known = All-nil part
        named_parts (of_lemma.ByRule number principal cited) known = All-cons part (formula_at formulas principal) [] (formula_within part formulas parts principal (known 0 principal (omega arith))) (All-nil part)

    -- the same of what a call answers that looks for the line, and appends it where it isn't there
    pub appended_answer : {E : Type 0} (goal : List SignedFormula) → AreSubformulasOf goal formulas → AreSubformulasOf goal (map (λ item. item.formula) conclusion) → (new : List PlainLine) (result : Result ℕ E) → IfOk result (IsLineFor old new conclusion reason) → OnErr result (new ≡ old) → AreAppended logic rules goal old new
    appended_answer goal parts own new (Ok found) ok err = appended_one goal parts own new ok.grown
    appended_answer goal parts own new (Err e) ok err = appended_one goal parts own new (inl err)

  -- the line of a lemma's own sequent
  pub own_appended : {E : Type 0} (place : ℕ) (l : PlainLemma) (here : slice_get lemmas place ≡ Some l) (old : List PlainLine) (position : ℕ → ℕ) (each : All (λ cited. HasLine formulas lemmas old cited (position cited)) (places_cited_by l.reason)) (goal : List SignedFormula) → AreSubformulasOf goal formulas
      → (new : List PlainLine) (result : Result ℕ E) → IfOk result (IsLineFor old new (unpacked formulas l.sequent) (line_reason formulas position l.reason)) → OnErr result (new ≡ old) → AreAppended logic rules goal old new
  own_appended place l here old position each goal parts new result ok err =
      let known = sequent_known place l here in
      let packed = sequent_packed place l here in
      appended_answer place l here old position each (unpacked formulas l.sequent) (included-unpacked logic.size formulas are.numbering l.sequent l.sequent packed.signs known packed known (λ k w below m. m)) (omega arith) goal parts
      (All-map (λ f. Any (λ item. IsSubformula f item.formula) goal) (λ item. item.formula) (unpacked formulas l.sequent) (unpacked_within (λ f. Any (λ item. IsSubformula f item.formula) goal) formulas parts l.sequent known)) new result ok err

  -- the line of a goal that includes the lemma
  pub goal_appended : {E : Type 0} (place : ℕ) (l : PlainLemma) (here : slice_get lemmas place ≡ Some l) (old : List PlainLine) (position : ℕ → ℕ) (each : All (λ cited. HasLine formulas lemmas old cited (position cited)) (places_cited_by l.reason)) (goal : List SignedFormula) → AreSubformulasOf goal formulas
      → is_included (unpacked formulas l.sequent) goal ≡ true → (new : List PlainLine) (result : Result ℕ E) → IfOk result (IsLineFor old new goal (line_reason formulas position l.reason)) → OnErr result (new ≡ old) → AreAppended logic rules goal old new
  goal_appended place l here old position each goal parts included new result ok err =
      appended_answer place l here old position each goal included (operators_included logic.size formulas are.numbering l.sequent goal (sequent_packed place l here) (sequent_known place l here) included) goal parts (own_subformulas goal) new result ok err

-- the goal includes the lemma that stands at the place
pub included_of : (lemmas : List PlainLemma) (place : ℕ) (l other : PlainLemma) (formulas : List Formula) (goal : List SignedFormula) → slice_get lemmas place ≡ Some l → slice_get lemmas place ≡ Some other → is_included (unpacked formulas l.sequent) goal ≡ true → is_included (unpacked formulas other.sequent) goal ≡ true
included_of lemmas place l other formulas goal here there included =
    let both : Some l ≡ Some other = sym here ∙ there in
    let same : l ≡ other = cc in
    subst (λ (x : PlainLemma). is_included (unpacked formulas x.sequent) goal ≡ true) same included
