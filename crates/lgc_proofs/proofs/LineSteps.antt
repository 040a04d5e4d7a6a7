-- A step of lemmas is a step of lines: the lines of lemmas, with the formulas that their numbers stand for, are steps of a derivation.
use Rattle.std.proofs.Common.{◌≡◌, ℕ, zero, suc, ◌<◌, ◌≤◌, ◌-◌, Bool, true, false, cond, ◌==◌, ◌||◌, ◌&&◌, not, ◌++◌, List, [], ◌∷◌, length, map, slice_get, Some, refl, sym, ◌∙◌, ap, subst, arith, ⊎_elim, append_assoc}
use Rattle.std.specs.Prelude.{All, IsPermutation}
use Rattle.std.specs.List.{AllZip, list_all, zip}
use Rattle.std.proofs.lemmas.Bool.{and_parts, and_from, or_cases, or_left, or_right, eqb-true, eq-eqb, true≢false}
use Rattle.std.proofs.lemmas.List.{append-nil}
use Rattle.std.proofs.lemmas.List.Elements.{All-cons, All-head, All-tail, All-nil, All-push, All-weaker}
use Rattle.std.proofs.lemmas.List.Sorted.{All-permutation, IsPermutation-sym, list_any-IsPermutation}
use Rattle.std.proofs.lemmas.List.Sums.{AllPass-from_list_all, list_all-from_AllPass}
use Rattle.std.proofs.lemmas.Option.{slice_get_within}
use Rattle.lgc_values.specs.Values.{has, values_where}
use Rattle.lgc_values.specs.Logic.{Logic}
use Rattle.lgc_clauses.specs.Rules.{OperatorRule, of_operator}
use Rattle.lgc_syntax.specs.declared.formula.Formula.{Formula, Op}
use Rattle.lgc_syntax.specs.Equality.{same_formula}
use Rattle.lgc_sequents.specs.Signed.{SignedFormula}
use Rattle.lgc_sequents.specs.Sequents.{IsSign, IsSequent, sign_in, is_included, is_axiom, has_all}
use Rattle.lgc_sequents.specs.Lines.{PlainLine, at_position, IsPosition, sequent_at}
use Rattle.lgc_sequents.specs.Steps.{with_signs, carries, are_allowed, IsRuleStep, without_terms, premise_at, IsReasonFor}
use Rattle.lgc_sequents.specs.Steps.{IsStep as IsLineStep}
use Rattle.lgc_sequents.specs.declared.line.Cited.{Cited}
use Rattle.lgc_sequents.proofs.Laws.{list_all-has}
use Rattle.lgc_sequents.proofs.StepLaws.{operator_step, operator_step_grown}
use Rattle.lgc_numbering.specs.declared.node.Node.{Node}
use Rattle.lgc_numbering.specs.declared.node.Node.TheVariants.{Compound}
use Rattle.lgc_numbering.specs.Numbering.{formula_at, IsNumbering, AreNodesOf}
use Rattle.lgc_numbering.proofs.NumberingLaws.{formula_at-node}
use Rattle.lgc_packed.specs.Packed.{IsPacked, IsIncluded, marks, is_full, unpacked}
use Rattle.lgc_packed.specs.Packing.{AreKnown}
use Rattle.lgc_packed.proofs.Rising.{IsRising, rising_from}
use Rattle.lgc_packed.proofs.Marks.{nothing_below}
use Rattle.lgc_packed.proofs.Truth.{has-all}
use Rattle.lgc_packed.proofs.InclusionLaws.{all_pass, member_below}
use Rattle.lgc_packed.proofs.SequentLaws.{same_number, included_stands}
use Rattle.lgc_lemmas.specs.declared.lemma.Reason.{Reason}
use Rattle.lgc_lemmas.specs.declared.lemma.Reason.TheVariants as lemma
use Rattle.lgc_lemmas.specs.Plain.{PlainLemma}
use Rattle.lgc_lemmas.specs.Steps.{marks_other, ArePremises, IsReason, IsStep, AreSteps}
use Rattle.lgc_lemmas.specs.Nodes.{HasNumbersBelow}
use Rattle.lgc_lemmas.proofs.Truth.{all_at}
use Rattle.lgc_proofs.specs.Writing.{places_cited_by, cited_line, line_reason, HasLine}

-- ---- signs by numbers
module _ (formulas : List Formula) (numbering : IsNumbering formulas) (k v : ℕ) (within : k < length formulas) where
  -- what stands on a number lies in the sign of its formula
  has-unpacked : (xs : List (ℕ × List ℕ)) → IsRising xs → AreKnown formulas xs → has (sign_in (unpacked formulas xs) (formula_at formulas k)) v ≡ marks xs k v
  has-unpacked [] rising known = refl
  has-unpacked (x ∷ xs) rising known =
      ap (λ b. has (cond b x.1 (sign_in (unpacked formulas xs) (formula_at formulas k))) v) (same_number formulas numbering.distinct x.0 k (All-head (λ pair. pair.0 < length formulas) x xs known) within)
      ∙ by (x.0 == k) refl (has-unpacked xs rising.1 (All-tail (λ pair. pair.0 < length formulas) x xs known))
    where
      by : (b : Bool) → (x.0 == k) ≡ b → has (sign_in (unpacked formulas xs) (formula_at formulas k)) v ≡ marks xs k v → has (cond b x.1 (sign_in (unpacked formulas xs) (formula_at formulas k))) v ≡ ((b && has x.1 v) || marks xs k v)
      by true is later = alone (has x.1 v) (marks xs k v) (subst (λ (j : ℕ). marks xs j v ≡ false) (eqb-true x.0 k is) (nothing_below x.0 xs v rising.0))
        where
          alone : (a b : Bool) → b ≡ false → a ≡ (a || b)
          alone true b none = refl
          alone false b none = sym none
      by false is later = later

  -- what a clause puts on a number it puts on the number's formula
  carries-clause : (arguments : List ℕ) (sets : List (List ℕ)) → All (λ a. a < length formulas) arguments → carries (with_signs sets (map (formula_at formulas) arguments)) (formula_at formulas k) v ≡ marks (zip arguments sets) k v
  carries-clause [] [] known = refl
  carries-clause [] (set ∷ sets) known = refl
  carries-clause (a ∷ arguments) [] known = refl
  carries-clause (a ∷ arguments) (set ∷ sets) known =
      ap (λ b. (b && has set v) || carries (with_signs sets (map (formula_at formulas) arguments)) (formula_at formulas k) v) (same_number formulas numbering.distinct a k (All-head (λ j. j < length formulas) a arguments known) within)
      ∙ ap (λ b. ((a == k) && has set v) || b) (carries-clause arguments sets (All-tail (λ j. j < length formulas) a arguments known))

-- what is included by numbers is included by formulas
pub included-unpacked : (n : ℕ) (formulas : List Formula) → IsNumbering formulas → (xs others : List (ℕ × List ℕ)) → All (λ pair. IsSign n pair.1) xs → AreKnown formulas xs → IsPacked n others → AreKnown formulas others → IsIncluded n xs others
    → is_included (unpacked formulas xs) (unpacked formulas others) ≡ true
included-unpacked n formulas numbering [] others signs numbers packed known included = refl
included-unpacked n formulas numbering (x ∷ xs) others signs numbers packed known included =
    and_from (list_all (has (sign_in (unpacked formulas others) (formula_at formulas x.0))) x.1) (is_included (unpacked formulas xs) (unpacked formulas others))
    (all_pass (has (sign_in (unpacked formulas others) (formula_at formulas x.0))) x.1 (λ v member.
    has-unpacked formulas numbering x.0 v (All-head (λ pair. pair.0 < length formulas) x xs numbers) others (rising_from others packed.rising) known
    ∙ included x.0 v (member_below n x.1 v (All-head (λ pair. IsSign n pair.1) x xs signs) member) (or_left ((x.0 == x.0) && has x.1 v) (marks xs x.0 v) (and_from (x.0 == x.0) (has x.1 v) (eq-eqb x.0 x.0 refl) member))))
    (included-unpacked n formulas numbering xs others (All-tail (λ pair. IsSign n pair.1) x xs signs) (All-tail (λ pair. pair.0 < length formulas) x xs numbers) packed known (λ k w l m. included k w l (or_right ((x.0 == k) && has x.1 w) (marks xs k w) m)))

-- ---- axioms
axiom-unpacked : (n : ℕ) (formulas : List Formula) (xs : List (ℕ × List ℕ)) → is_axiom n (unpacked formulas xs) ≡ is_full n xs
axiom-unpacked n formulas [] = refl
axiom-unpacked n formulas (x ∷ xs) = ap (λ b. has_all n x.1 || b) (axiom-unpacked n formulas xs)

-- a formula with all values makes an axiom
axiom_of_sign : (n : ℕ) (items : List SignedFormula) (f : Formula) → 0 < n → has_all n (sign_in items f) ≡ true → is_axiom n items ≡ true
axiom_of_sign n [] f some all = absurd (true≢false (sym (has-all n [] 0 all some)))
axiom_of_sign n (x ∷ xs) f some all = by (same_formula f x.formula) all (axiom_of_sign n xs f some) where
  by : (b : Bool) → has_all n (cond b x.sign (sign_in xs f)) ≡ true → (has_all n (sign_in xs f) ≡ true → is_axiom n xs ≡ true) → is_axiom n (x ∷ xs) ≡ true
  by true here later = or_left (has_all n x.sign) (is_axiom n xs) here
  by false there later = or_right (has_all n x.sign) (is_axiom n xs) (later there)

-- a sequent that includes an axiom is one
pub axiom_grown : (n : ℕ) (items others : List SignedFormula) → 0 < n → is_included items others ≡ true → is_axiom n items ≡ true → is_axiom n others ≡ true
axiom_grown n [] others some included full = absurd (true≢false (sym full))
axiom_grown n (x ∷ xs) others some included full =
    let parts = and_parts (list_all (has (sign_in others x.formula)) x.sign) (is_included xs others) included in
    ⊎_elim
    (λ here. axiom_of_sign n others x.formula some (all_within (values_where n (λ _. true)) here parts.0))
    (λ later. axiom_grown n xs others some parts.1 later)
    (or_cases (has_all n x.sign) (is_axiom n xs) full)
  where
    all_within : (values : List ℕ) → list_all (has x.sign) values ≡ true → list_all (has (sign_in others x.formula)) x.sign ≡ true → list_all (has (sign_in others x.formula)) values ≡ true
    all_within [] all within = refl
    all_within (v ∷ values) all within =
        let parts = and_parts (has x.sign v) (list_all (has x.sign) values) all in
        and_from (has (sign_in others x.formula) v) (list_all (has (sign_in others x.formula)) values) (list_all-has (has (sign_in others x.formula)) x.sign v within parts.0) (all_within values parts.1 within)

-- ---- items in some order

-- a line with the items of a sequent is included in it
pub included_in_any_order : (n : ℕ) (items goal : List SignedFormula) → IsSequent n goal → IsPermutation items goal → is_included items goal ≡ true
included_in_any_order n items goal is same =
    included_stands items goal is.distinct (λ f w stands. sym (list_any-IsPermutation (λ (item : SignedFormula). same_formula f item.formula && has item.sign w) items goal same) ∙ stands)

list_all-permutation : {X : Type 0} (test : X → Bool) (xs ys : List X) → IsPermutation xs ys → list_all test xs ≡ true → list_all test ys ≡ true
list_all-permutation test xs ys same all = list_all-from_AllPass test ys (All-permutation (λ x. test x ≡ true) xs ys same (AllPass-from_list_all test xs all))

-- ---- rules by their numbers
slice_get-map : {X Y : Type 0} (f : X → Y) (xs : List X) (i : ℕ) (x : X) → slice_get xs i ≡ Some x → slice_get (map f xs) i ≡ Some (f x)
slice_get-map f [] i x here = cc
slice_get-map f (y ∷ ys) zero x here = let same : y ≡ x = cc in ap (λ z. Some (f z)) same
slice_get-map f (y ∷ ys) (suc i) x here = slice_get-map f ys i x here

at_number : {X Y : Type 0} (f : X → Y) (xs : List X) (number : ℕ) (x : X) → 1 ≤ number → slice_get xs (number - 1) ≡ Some x → at_position (map f xs) number ≡ Some (f x)
at_number f xs zero x counted here = absurd (omega (arith, counted))
at_number f xs (suc i) x counted here = let down : suc i - 1 ≡ i = omega arith in slice_get-map f xs i x (subst (λ j. slice_get xs j ≡ Some x) down here)

-- ---- premises
module _ (n : ℕ) (formulas : List Formula) (numbering : IsNumbering formulas) (lemmas : List PlainLemma) (all : All (λ l. IsPacked n l.sequent × AreKnown formulas l.sequent) lemmas) (lines : List PlainLine) (position : ℕ → ℕ)
    (sequent : List (ℕ × List ℕ)) (packed : IsPacked n sequent) (known : AreKnown formulas sequent) (principal : ℕ) (arguments : List ℕ) (below : All (λ a. a < length formulas) arguments) where
  value_allowed : (sets : List (List ℕ)) (k v : ℕ) → k < length formulas → (marks_other sequent principal k v || marks (zip arguments sets) k v) ≡ true
      → (has (sign_in (unpacked formulas sequent) (formula_at formulas k)) v || carries (with_signs sets (map (formula_at formulas) arguments)) (formula_at formulas k) v) ≡ true
  value_allowed sets k v within stands =
      let other = has (sign_in (unpacked formulas sequent) (formula_at formulas k)) v in
      let added = carries (with_signs sets (map (formula_at formulas) arguments)) (formula_at formulas k) v in
      ⊎_elim
      (λ there. or_left other added (has-unpacked formulas numbering k v within sequent (rising_from sequent packed.rising) known ∙ (and_parts (marks sequent k v) (not (principal == k)) there).0))
      (λ there. or_right other added (carries-clause formulas numbering k v within arguments sets below ∙ there))
      (or_cases (marks_other sequent principal k v) (marks (zip arguments sets) k v) stands)

  pairs_allowed : (sets : List (List ℕ)) (xs : List (ℕ × List ℕ)) → All (λ pair. IsSign n pair.1) xs → AreKnown formulas xs → ((k w : ℕ) → w < n → marks xs k w ≡ true → (marks_other sequent principal k w || marks (zip arguments sets) k w) ≡ true)
      → are_allowed (unpacked formulas sequent) (with_signs sets (map (formula_at formulas) arguments)) (unpacked formulas xs) ≡ true
  pairs_allowed sets [] signs numbers within = refl
  pairs_allowed sets (x ∷ xs) signs numbers within =
      let test : ℕ → Bool = λ v. has (sign_in (unpacked formulas sequent) (formula_at formulas x.0)) v || carries (with_signs sets (map (formula_at formulas) arguments)) (formula_at formulas x.0) v in
      and_from (list_all test x.1) (are_allowed (unpacked formulas sequent) (with_signs sets (map (formula_at formulas) arguments)) (unpacked formulas xs))
      (all_pass test x.1 (λ v member. value_allowed sets x.0 v (All-head (λ pair. pair.0 < length formulas) x xs numbers)
      (within x.0 v (member_below n x.1 v (All-head (λ pair. IsSign n pair.1) x xs signs) member) (or_left ((x.0 == x.0) && has x.1 v) (marks xs x.0 v) (and_from (x.0 == x.0) (has x.1 v) (eq-eqb x.0 x.0 refl) member)))))
      (pairs_allowed sets xs (All-tail (λ pair. IsSign n pair.1) x xs signs) (All-tail (λ pair. pair.0 < length formulas) x xs numbers) (λ k w l m. within k w l (or_right ((x.0 == k) && has x.1 w) (marks xs k w) m)))

  premises_allowed : (clauses : List (List (List ℕ))) (cited : List ℕ) → ArePremises n lemmas (marks_other sequent principal) arguments clauses cited → All (λ place. HasLine formulas lemmas lines place (position place)) cited
      → AllZip (λ sets s. are_allowed (unpacked formulas sequent) (with_signs sets (map (formula_at formulas) arguments)) s ≡ true) clauses (map (λ place. sequent_at lines (position place)) cited)
  premises_allowed [] [] premises each = tt
  premises_allowed [] (place ∷ cited) premises each = absurd premises
  premises_allowed (sets ∷ clauses) [] premises each = absurd premises
  premises_allowed (sets ∷ clauses) (place ∷ cited) premises each =
      let here = premises.0 in
      let formed = all_at (λ (l : PlainLemma). IsPacked n l.sequent × AreKnown formulas l.sequent) lemmas place here.lemma all here.is in (
        list_all-permutation (λ item. list_all (λ v. has (sign_in (unpacked formulas sequent) item.formula) v || carries (with_signs sets (map (formula_at formulas) arguments)) item.formula v) item.sign)
            (unpacked formulas here.lemma.sequent) (sequent_at lines (position place)) (IsPermutation-sym (sequent_at lines (position place)) (unpacked formulas here.lemma.sequent) ((All-head (λ p. HasLine formulas lemmas lines p (position p)) place cited each).same here.lemma here.is))
            (pairs_allowed sets here.lemma.sequent formed.0.signs formed.1 here.within),
        premises_allowed clauses cited premises.1 (All-tail (λ p. HasLine formulas lemmas lines p (position p)) place cited each),
      )

same_premises : (lines : List PlainLine) (position : ℕ → ℕ) (cited : List ℕ) → map without_terms (map (λ place. sequent_at lines (position place)) cited) ≡ map (premise_at lines) (map (cited_line position) cited)
same_premises lines position [] = refl
same_premises lines position (place ∷ cited) = ap (λ premises. premise_at lines (cited_line position place) ∷ premises) (same_premises lines position cited)

earlier_lines : (formulas : List Formula) (lemmas : List PlainLemma) (lines : List PlainLine) (position : ℕ → ℕ) (cited : List ℕ) → All (λ place. HasLine formulas lemmas lines place (position place)) cited → All (λ (c : Cited). IsPosition lines c.line) (map (cited_line position) cited)
earlier_lines formulas lemmas lines position [] each = All-nil (λ (c : Cited). IsPosition lines c.line)
earlier_lines formulas lemmas lines position (place ∷ cited) each =
    All-cons (λ (c : Cited). IsPosition lines c.line) (cited_line position place) (map (cited_line position) cited) (All-head (λ p. HasLine formulas lemmas lines p (position p)) place cited each).stands
    (earlier_lines formulas lemmas lines position cited (All-tail (λ p. HasLine formulas lemmas lines p (position p)) place cited each))

-- ---- steps
module _ (logic : Logic) (formulas : List Formula) (nodes : List Node) (are : AreNodesOf formulas nodes) (numbering : IsNumbering formulas) (rules : List OperatorRule) (signs : All (λ rule. IsSign logic.size rule.sign) rules)
    (lemmas : List PlainLemma) (formed : All (λ l. IsPacked logic.size l.sequent × HasNumbersBelow (length nodes) l.sequent) lemmas) (lines : List PlainLine) (position : ℕ → ℕ) where
  reason_step : (sequent : List (ℕ × List ℕ)) → IsPacked logic.size sequent → HasNumbersBelow (length nodes) sequent → (reason : Reason) → IsReason logic nodes rules lemmas sequent reason → All (λ place. HasLine formulas lemmas lines place (position place)) (places_cited_by reason)
      → (conclusion : List SignedFormula) → is_included (unpacked formulas sequent) conclusion ≡ true → IsReasonFor logic.size (map of_operator rules) lines conclusion (line_reason formulas position reason)
  reason_step sequent packed numbers lemma.Axiom full each conclusion included =
      axiom_grown logic.size (unpacked formulas sequent) conclusion (let low = packed.sized.low in omega (arith, low)) included (axiom-unpacked logic.size formulas sequent ∙ full)
  reason_step sequent packed numbers (lemma.ByRule number principal cited) step each conclusion included =
      record {
        rule = of_operator step.rule;
        stands = at_number of_operator rules number step.rule step.counted step.numbered;
        earlier = earlier_lines formulas lemmas lines position cited each;
        step = subst (IsRuleStep (of_operator step.rule) (formula_at formulas principal) conclusion) (same_premises lines position cited)
            (operator_step_grown (of_operator step.rule) step.rule.op (formula_at formulas principal) (unpacked formulas sequent) conclusion (map without_terms sequents) refl included
            (subst (λ f. IsRuleStep (of_operator step.rule) f (unpacked formulas sequent) (map without_terms sequents)) (sym compound)
            (operator_step (of_operator step.rule) step.rule.op arguments (unpacked formulas sequent) sequents refl signed allowed)));
      }
    where
      arguments : List Formula
      arguments = map (formula_at formulas) step.arguments

      sequents : List (List SignedFormula)
      sequents = map (λ place. sequent_at lines (position place)) cited

      compound : formula_at formulas principal ≡ Op step.rule.op arguments
      compound = formula_at-node formulas nodes principal (Compound step.rule.op step.arguments) are step.compound

      within : principal < length formulas
      within = subst (λ count. principal < count) are.count (slice_get_within nodes principal (Compound step.rule.op step.arguments) step.compound)

      below : All (λ a. a < length formulas) step.arguments
      below = All-weaker (λ a. a < principal) (λ a. a < length formulas) (λ a l. omega (arith, l, within)) step.arguments (are.over principal (Compound step.rule.op step.arguments) step.compound)

      known : AreKnown formulas sequent
      known = subst (λ count. All (λ (pair : ℕ × List ℕ). pair.0 < count) sequent) are.count numbers

      all : All (λ l. IsPacked logic.size l.sequent × AreKnown formulas l.sequent) lemmas
      all = subst (λ count. All (λ (l : PlainLemma). IsPacked logic.size l.sequent × HasNumbersBelow count l.sequent) lemmas) are.count formed

      signed : list_all (has (sign_in (unpacked formulas sequent) (Op step.rule.op arguments))) step.rule.sign ≡ true
      signed = ap (λ f. list_all (has (sign_in (unpacked formulas sequent) f)) step.rule.sign) (sym compound)
          ∙ all_pass (has (sign_in (unpacked formulas sequent) (formula_at formulas principal))) step.rule.sign (λ v member.
          has-unpacked formulas numbering principal v within sequent (rising_from sequent packed.rising) known
          ∙ step.signed v (member_below logic.size step.rule.sign v (all_at (λ (rule : OperatorRule). IsSign logic.size rule.sign) rules (number - 1) step.rule signs step.numbered) member) member)

      allowed : AllZip (λ sets s. are_allowed (unpacked formulas sequent) (with_signs sets arguments) s ≡ true) step.rule.clauses sequents
      allowed = premises_allowed logic.size formulas numbering lemmas all lines position sequent packed known principal step.arguments below step.rule.clauses cited step.premises each

  -- A line with a lemma's reason is a step where its sequent includes the lemma's, and the lemmas that are cited have lines before it.
  pub line_step : (l : PlainLemma) → IsStep logic nodes rules lemmas l → All (λ place. HasLine formulas lemmas lines place (position place)) (places_cited_by l.reason) → (number : ℕ) (conclusion : List SignedFormula) → is_included (unpacked formulas l.sequent) conclusion ≡ true
      → IsLineStep logic.size (map of_operator rules) lines (record { number = number; sequent = conclusion; reason = line_reason formulas position l.reason })
  line_step l step each number conclusion included = reason_step l.sequent step.packed step.numbers l.reason step.reason each conclusion included
