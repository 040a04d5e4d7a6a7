-- Lines whose rules have new numbers are steps by the rules with these numbers.
use Rattle.std.proofs.Common.{◌≡◌, ◌≢◌, ℕ, zero, suc, ◌+◌, ◌-◌, ◌^◌, ◌<◌, ◌≤◌, ◌==◌, true, List, [], ◌∷◌, ◌++◌, Option, Some, None, length, map, take, drop, get_or, set, slice_get, refl, sym, ap, subst, ◌∙◌, arith}
use Rattle.std.specs.Prelude.{All, Contains}
use Rattle.std.specs.List.{fold, position_or_len, range_with_len}
use Rattle.std.specs.Option.{option_map}
use Rattle.std.proofs.lemmas.Bool.Decides.{Decides-eqb}
use Rattle.std.proofs.lemmas.Grind.{flat_map-append}
use Rattle.std.proofs.lemmas.List.{append-nil, drop_more, map-append, length-map, length-take-le, get_or-map, length_push, take_more}
use Rattle.std.proofs.lemmas.List.Edits.{map_over_more}
use Rattle.std.proofs.lemmas.List.Sums.{fold-append}
use Rattle.std.proofs.lemmas.List.Elements.{All-nil, All-cons, All-head, All-append, All-contains, All-weaker, Contains-get_or, Contains-append_left, Contains-append_right}
use Rattle.std.proofs.lemmas.List.FromFn.{length-range_with_len}
use Rattle.std.proofs.lemmas.List.Kept.{AllPairs-cons}
use Rattle.std.proofs.lemmas.Map.Made.{IsDistinct-from_AllPairs}
use Rattle.std.proofs.lemmas.Map.Steps.{length-le_from_distinct_below}
use Rattle.std.proofs.lemmas.Option.{slice_get_within, slice_get-get_or, slice_get-map, slice_get_read, get_or_from_slice_get}
use Rattle.std.proofs.Math.Seq.{get_or-append_seam}
use Rattle.lgc_clauses.specs.Rules.{OperatorRule, PlainRule, of_operator}
use Rattle.lgc_sequents.specs.Signed.{SignedFormula}
use Rattle.lgc_sequents.specs.Lines.{PlainLine, at_position, IsPosition, sequent_of, sequent_at}
use Rattle.lgc_sequents.specs.Steps.{premise_at, IsRuleStep, IsResolvent, IsReasonFor, AreSteps}
use Rattle.lgc_sequents.specs.declared.line.Cited.{Cited}
use Rattle.lgc_sequents.specs.declared.line.Reason.{Reason}
use Rattle.lgc_sequents.specs.declared.line.Reason.TheVariants.{Axiom, Pending, ByRule, Resolve}
use Rattle.lgc_report.specs.Reports.{PlainNumbered}
use Rattle.lgc_proofs.proofs.StoreLaws.{range_more}
use Rattle.lgc_prove.specs.ByUse.{rules_of_reason, rules_cited, with_number, first_uses, renumbered_reason, renumbered, IsByUse}
use Rattle.lgc_prove.specs.Uses.{number_in, AreNumberedFrom}
use Rattle.lgc_prove.proofs.UseLaws.{among, are_used, first_uses_all, first_uses_distinct, place_within, at_place, contained, new_numbers}

-- ---- parts of lists

left_all : {X : Type 0} (P : X → Type 0) (xs ys : List X) → All P (xs ++ ys) → All P xs
left_all P xs ys all = λ i d lt. All-contains P (xs ++ ys) (get_or xs i d) all (Contains-append_left xs ys (get_or xs i d) (Contains-get_or xs i d lt))

right_all : {X : Type 0} (P : X → Type 0) (xs ys : List X) → All P (xs ++ ys) → All P ys
right_all P xs ys all = λ i d lt. All-contains P (xs ++ ys) (get_or ys i d) all (Contains-append_right xs ys (get_or ys i d) (Contains-get_or ys i d lt))

-- ---- what lines cite

cited_reason : (number : ℕ → ℕ) (reason : Reason) → rules_of_reason (renumbered_reason number reason) ≡ map number (rules_of_reason reason)
cited_reason number Axiom = refl
cited_reason number Pending = refl
cited_reason number (ByRule rule principal premises) = refl
cited_reason number (Resolve f left right) = refl

cited_renumbered : (number : ℕ → ℕ) (lines : List PlainLine) → rules_cited (map (renumbered number) lines) ≡ map number (rules_cited lines)
cited_renumbered number [] = refl
cited_renumbered number (line ∷ lines) = (λ i. cited_reason number line.reason i ++ cited_renumbered number lines i) ∙ sym (map-append number (rules_of_reason line.reason) (rules_cited lines))

-- the rules that a line cites are cited
cited_at : (P : ℕ → Type 0) (lines : List PlainLine) (i : ℕ) (d : PlainLine) → All P (rules_cited lines) → i < length lines → All P (rules_of_reason (get_or lines i d).reason)
cited_at P [] i d all lt = absurd (omega (arith, lt))
cited_at P (line ∷ lines) zero d all lt = left_all P (rules_of_reason line.reason) (rules_cited lines) all
cited_at P (line ∷ lines) (suc i) d all lt = cited_at P lines i d (right_all P (rules_of_reason line.reason) (rules_cited lines) all) (omega (arith, lt))

-- ---- the rules of steps

module _ (n : ℕ) (rules : List PlainRule) where
  reason_positions : (before : List PlainLine) (conclusion : List SignedFormula) (reason : Reason) → IsReasonFor n rules before conclusion reason → All (IsPosition rules) (rules_of_reason reason)
  reason_positions before conclusion Axiom is = All-nil (IsPosition rules)
  reason_positions before conclusion Pending is = All-nil (IsPosition rules)
  reason_positions before conclusion (ByRule zero principal premises) is = absurd (let wrong : None ≡ Some is.rule = is.stands in cc)
  reason_positions before conclusion (ByRule (suc k) principal premises) is = All-cons (IsPosition rules) (suc k) [] (let lt = slice_get_within rules k is.rule is.stands in (omega arith, omega (arith, lt))) (All-nil (IsPosition rules))
  reason_positions before conclusion (Resolve f left right) is = All-nil (IsPosition rules)

  step_positions : (before lines : List PlainLine) → AreSteps n rules before lines → All (IsPosition rules) (rules_cited lines)
  step_positions before [] steps = All-nil (IsPosition rules)
  step_positions before (line ∷ lines) steps =
      All-append (IsPosition rules) (rules_of_reason line.reason) (rules_cited lines) (reason_positions before line.sequent line.reason steps.0) (step_positions (before ++ line ∷ []) lines steps.1)

-- rules that steps cite are there
uses_stand : (n : ℕ) (rules : List OperatorRule) (lines : List PlainLine) → AreSteps n (map of_operator rules) [] lines → All (IsPosition rules) (first_uses (rules_cited lines))
uses_stand n rules lines steps = first_uses_all (IsPosition rules) (rules_cited lines)
    (All-weaker (IsPosition (map of_operator rules)) (IsPosition rules) (λ k stands. (stands.0, let most = stands.1 in let long = length-map rules of_operator in omega (arith, most, long))) (rules_cited lines) (step_positions n (map of_operator rules) [] lines steps))

-- and no more are in use than there are
few_uses : (n : ℕ) (rules : List OperatorRule) (lines : List PlainLine) → AreSteps n (map of_operator rules) [] lines → length (first_uses (rules_cited lines)) ≤ length rules
few_uses n rules lines steps =
    let uses = first_uses (rules_cited lines) in
    let stand = uses_stand n rules lines steps in
    let apart : All (λ k. 0 ≢ k) uses = All-weaker (IsPosition rules) (λ k. 0 ≢ k) (λ k stands same. let low = stands.0 in absurd (omega (arith, low, same))) uses stand in
    let distinct = AllPairs-cons (λ i j. i ≢ j) 0 uses apart (first_uses_distinct (rules_cited lines)) in
    let all : length (0 ∷ uses) ≤ length rules + 1 = length-le_from_distinct_below (0 ∷ uses) (length rules + 1) (IsDistinct-from_AllPairs Decides-eqb (0 ∷ uses) distinct)
    (λ k there. All-contains (λ j. j < length rules + 1) (0 ∷ uses) k (All-cons (λ j. j < length rules + 1) 0 uses (omega arith) (All-weaker (IsPosition rules) (λ j. j < length rules + 1) (λ j stands. let most = stands.1 in omega (arith, most)) uses stand)) (contained (0 ∷ uses) k there)) in
    omega (arith, all)

-- ---- steps by other numbers

-- a rule stands at its new number too
abbrev Moves : (ℕ → ℕ) → List PlainRule → List PlainRule → ℕ → Type 0
Moves number rules used k = (rule : PlainRule) → at_position rules k ≡ Some rule → at_position used (number k) ≡ Some rule

module _ (n : ℕ) (number : ℕ → ℕ) (rules used : List PlainRule) where
  sequent_same : (before : List PlainLine) (position : ℕ) → sequent_at (map (renumbered number) before) position ≡ sequent_at before position
  sequent_same before zero = refl
  sequent_same before (suc k) = ap sequent_of (slice_get-map (renumbered number) before k) ∙ of (slice_get before k) where
    of : (line : Option PlainLine) → sequent_of (option_map (renumbered number) line) ≡ sequent_of line
    of None = refl
    of (Some line) = refl

  premises_same : (before : List PlainLine) (premises : List Cited) → map (premise_at (map (renumbered number) before)) premises ≡ map (premise_at before) premises
  premises_same before [] = refl
  premises_same before (cited ∷ premises) = λ i. record { sequent = sequent_same before cited.line i; terms = cited.terms } ∷ premises_same before premises i

  position_same : (before : List PlainLine) (position : ℕ) → IsPosition before position → IsPosition (map (renumbered number) before) position
  position_same before position stands = (stands.0, let most = stands.1 in let long = length-map before (renumbered number) in omega (arith, most, long))

  reason_moved : (before : List PlainLine) (conclusion : List SignedFormula) (reason : Reason) → All (Moves number rules used) (rules_of_reason reason) → IsReasonFor n rules before conclusion reason → IsReasonFor n used (map (renumbered number) before) conclusion (renumbered_reason number reason)
  reason_moved before conclusion Axiom moves is = is
  reason_moved before conclusion Pending moves is = tt
  reason_moved before conclusion (ByRule rule principal premises) moves is = record {
    rule = is.rule;
    stands = All-head (Moves number rules used) rule [] moves is.rule is.stands;
    earlier = λ i d lt. position_same before (get_or premises i d).line (is.earlier i d lt);
    step = subst (IsRuleStep is.rule principal conclusion) (sym (premises_same before premises)) is.step;
  }
  reason_moved before conclusion (Resolve f left right) moves is = record {
    left_earlier = position_same before left is.left_earlier;
    right_earlier = position_same before right is.right_earlier;
    step = subst (λ l. IsResolvent f l (sequent_at (map (renumbered number) before) right) conclusion) (sym (sequent_same before left)) (subst (λ r. IsResolvent f (sequent_at before left) r conclusion) (sym (sequent_same before right)) is.step);
  }

  steps_moved : (before lines : List PlainLine) → All (Moves number rules used) (rules_cited lines) → AreSteps n rules before lines → AreSteps n used (map (renumbered number) before) (map (renumbered number) lines)
  steps_moved before [] moves steps = tt
  steps_moved before (line ∷ lines) moves steps = (
    reason_moved before line.sequent line.reason (left_all (Moves number rules used) (rules_of_reason line.reason) (rules_cited lines) moves) steps.0,
    subst (λ bs. AreSteps n used bs (map (renumbered number) lines)) (map-append (renumbered number) before (line ∷ []))
        (steps_moved (before ++ line ∷ []) lines (right_all (Moves number rules used) (rules_of_reason line.reason) (rules_cited lines) moves) steps.1),
  )

-- ---- the numbered rules

-- a rule in use stands at its new number
moves_in_use : (rules : List OperatorRule) (uses : List ℕ) (used : List PlainNumbered) → AreNumberedFrom rules uses used → (k : ℕ) → among uses k ≡ true → Moves (number_in uses) (map of_operator rules) (map (λ numbered. numbered.rule) used) k
moves_in_use rules uses used are k there rule at = let next : place + 1 ≡ suc place = omega arith in ap (at_position (map (λ numbered. numbered.rule) used)) next ∙ told (slice_get used place) refl where
  place : ℕ
  place = position_or_len (λ j. k == j) uses

  here : slice_get uses place ≡ Some k
  here = slice_get-get_or uses place k (place_within uses k there) ∙ ap (λ j. Some j) (at_place uses k k there)

  both : option_map (λ numbered. Some numbered.rule) (slice_get used place) ≡ Some (Some rule)
  both =
      sym (slice_get-map (λ numbered. Some numbered.rule) used place)
      ∙ ap (λ rs. slice_get rs place) are.same
      ∙ slice_get-map (at_position (map of_operator rules)) uses place
      ∙ ap (option_map (at_position (map of_operator rules))) here
      ∙ ap (λ r. Some r) at

  told : (found : Option PlainNumbered) → slice_get used place ≡ found → slice_get (map (λ numbered. numbered.rule) used) place ≡ Some rule
  told None is = absurd (let wrong : None ≡ Some (Some rule) = ap (option_map (λ numbered. Some numbered.rule)) (sym is) ∙ both in cc)
  told (Some numbered) is =
      let same : Some (Some numbered.rule) ≡ Some (Some rule) = ap (option_map (λ x. Some x.rule)) (sym is) ∙ both in
      let rules_same : numbered.rule ≡ rule = cc in
      slice_get-map (λ x. x.rule) used place ∙ ap (option_map (λ x. x.rule)) is ∙ ap (λ r. Some r) rules_same

among_rules : (rules : List OperatorRule) (uses : List ℕ) (used : List PlainNumbered) → AreNumberedFrom rules uses used → length used ≡ length uses → All (λ numbered. Contains (map of_operator rules) numbered.rule) used
among_rules rules uses used are long i d lt =
    let x = get_or used i d in
    let i_lt : i < length uses = omega (arith, lt, long) in
    let both : Some x.rule ≡ at_position (map of_operator rules) (get_or uses i 0) =
    sym (get_or-map (λ numbered. Some numbered.rule) used i d None lt) ∙ ap (λ rs. get_or rs i None) are.same ∙ get_or-map (at_position (map of_operator rules)) uses i 0 None i_lt in
    at (get_or uses i 0) x.rule (sym both)
  where
    at : (position : ℕ) (rule : PlainRule) → at_position (map of_operator rules) position ≡ Some rule → Contains (map of_operator rules) rule
    at zero rule is = absurd (let wrong : None ≡ Some rule = is in cc)
    at (suc k) rule is = (k, slice_get_within (map of_operator rules) k rule is, get_or_from_slice_get (map of_operator rules) k rule rule is)

-- lines with new numbers, and the rules that have them
pub is_by_use : (n : ℕ) (rules : List OperatorRule) (lines : List PlainLine) (uses : List ℕ) (used : List PlainNumbered) → uses ≡ first_uses (rules_cited lines) → AreSteps n (map of_operator rules) [] lines → AreNumberedFrom rules uses used
    → IsByUse n rules lines used (map (renumbered (number_in uses)) lines)
is_by_use n rules lines uses used is steps are = record {
  number = number_in uses;
  same = refl;
  among = among_rules rules uses used are long;
  positions = are.numbers ∙ ap (range_with_len 1) (sym long ∙ sym (length-map used (λ numbered. numbered.number)));
  by_use =
      ap first_uses (cited_renumbered (number_in uses) lines)
      ∙ ap (λ us. first_uses (map (number_in us) (rules_cited lines))) is
      ∙ new_numbers (rules_cited lines)
      ∙ ap (range_with_len 1) (ap length (sym is) ∙ sym long);
  steps = steps_moved n (number_in uses) (map of_operator rules) (map (λ numbered. numbered.rule) used) [] lines
      (All-weaker (λ k. among uses k ≡ true) (Moves (number_in uses) (map of_operator rules) (map (λ numbered. numbered.rule) used)) (λ k there. moves_in_use rules uses used are k there) (rules_cited lines) (subst (λ us. All (λ k. among us k ≡ true) (rules_cited lines)) (sym is) (are_used (rules_cited lines))))
      steps;
} where
  long : length used ≡ length uses
  long = sym (length-map used (λ numbered. numbered.number)) ∙ ap length are.numbers ∙ length-range_with_len 1 (length uses)

-- ---- calls

pub uses_fit : (n : ℕ) (rules : List OperatorRule) (lines : List PlainLine) (uses : List ℕ) → uses ≡ first_uses (rules_cited lines) → length rules < 2 ^ 32 → AreSteps n (map of_operator rules) [] lines → length uses < 2 ^ 32
uses_fit n rules lines uses is few steps = let most = few_uses n rules lines steps in let long : length uses ≡ length (first_uses (rules_cited lines)) = ap length is in omega (arith, most, long, few)

pub uses_there : (n : ℕ) (rules : List OperatorRule) (lines : List PlainLine) (uses : List ℕ) → uses ≡ first_uses (rules_cited lines) → AreSteps n (map of_operator rules) [] lines → All (IsPosition rules) uses
uses_there n rules lines uses is steps = subst (All (IsPosition rules)) (sym is) (uses_stand n rules lines steps)

pub uses_cited : (lines : List PlainLine) (uses : List ℕ) → uses ≡ first_uses (rules_cited lines) → All (Contains uses) (rules_cited lines)
uses_cited lines uses is = All-weaker (λ k. among uses k ≡ true) (Contains uses) (λ k there. contained uses k there) (rules_cited lines) (subst (λ us. All (λ k. among us k ≡ true) (rules_cited lines)) (sym is) (are_used (rules_cited lines)))

-- one more line
pub uses_more : (lines : List PlainLine) (i : ℕ) (line : PlainLine) (before after : List ℕ) → i < length lines → line ≡ get_or lines i line → before ≡ first_uses (rules_cited (take i lines)) → after ≡ fold with_number before (rules_of_reason line.reason)
    → after ≡ first_uses (rules_cited (take (i + 1) lines))
uses_more lines i line before after lt read so_far is =
    let cited : rules_cited (take (i + 1) lines) ≡ rules_cited (take i lines) ++ rules_of_reason line.reason =
    ap rules_cited (take_more lines i line lt ∙ ap (λ l. take i lines ++ l ∷ []) (sym read))
    ∙ flat_map-append (λ l. rules_of_reason l.reason) (take i lines) (line ∷ [])
    ∙ ap (λ ks. rules_cited (take i lines) ++ ks) (append-nil (rules_of_reason line.reason)) in
    is
    ∙ ap (λ us. fold with_number us (rules_of_reason line.reason)) so_far
    ∙ sym (fold-append with_number [] (rules_cited (take i lines)) (rules_of_reason line.reason))
    ∙ ap first_uses (sym cited)

-- one more rule
pub numbered_more : {V : Type 0} (plain : V → PlainNumbered) (rules : List OperatorRule) (uses : List ℕ) (used after : List V) (item : V) (i number : ℕ) (rule x : OperatorRule) → AreNumberedFrom rules (take i uses) (map plain used) → i < length uses
    → IsPosition rules (get_or uses i 0) → x ≡ get_or rules (get_or uses i 0 - 1) x → rule ≡ x → number ≡ length used → plain item ≡ record { number = number + 1; rule = of_operator rule } → after ≡ used ++ item ∷ [] → AreNumberedFrom rules (take (i + 1) uses) (map plain after)
numbered_more plain rules uses used after item i number rule x are lt stands here copy next is pushed = subst (AreNumberedFrom rules (take (i + 1) uses)) (sym mapped) (record {
  numbers =
      map-append (λ numbered. numbered.number) (map plain used) (last ∷ [])
      ∙ ap (λ ns. ns ++ (number + 1) ∷ []) are.numbers
      ∙ sym (range_more 1 (length (take i uses)) (number + 1) (omega (arith, next, long)))
      ∙ ap (range_with_len 1) (sym (length_push (take i uses) (get_or uses i 0)) ∙ ap length (sym taken));
  same =
      map-append (λ numbered. Some numbered.rule) (map plain used) (last ∷ [])
      ∙ (λ j. are.same j ++ sym (at (get_or uses i 0) stands here) j ∷ [])
      ∙ sym (map-append (at_position (map of_operator rules)) (take i uses) (get_or uses i 0 ∷ []))
      ∙ ap (map (at_position (map of_operator rules))) (sym taken);
}) where
  last : PlainNumbered
  last = record { number = number + 1; rule = of_operator rule }

  mapped : map plain after ≡ map plain used ++ last ∷ []
  mapped = ap (map plain) pushed ∙ map-append plain used (item ∷ []) ∙ ap (λ x. map plain used ++ x ∷ []) is

  taken : take (i + 1) uses ≡ take i uses ++ get_or uses i 0 ∷ []
  taken = take_more uses i 0 lt

  long : length used ≡ length (take i uses)
  long = sym (length-map used plain) ∙ sym (length-map (map plain used) (λ numbered. numbered.number)) ∙ ap length are.numbers ∙ length-range_with_len 1 (length (take i uses))

  at : (p : ℕ) → IsPosition rules p → x ≡ get_or rules (p - 1) x → at_position (map of_operator rules) p ≡ Some (of_operator rule)
  at zero stands here = absurd (let low = stands.0 in omega (arith, low))
  at (suc k) stands here =
      let before : suc k - 1 ≡ k = omega arith in
      let lt : k < length rules = let most = stands.1 in omega (arith, most) in
      slice_get-map of_operator rules k
      ∙ ap (option_map of_operator) (slice_get_read rules (length rules) k x refl lt (here ∙ ap (λ j. get_or rules j x) before))
      ∙ ap (λ r. Some (of_operator r)) (sym copy)

-- the line at the place that is walked to is as it was
walked_from : (number : ℕ → ℕ) (lines rest : List PlainLine) (i : ℕ) (d : PlainLine) → i < length lines → drop i lines ≡ get_or lines i d ∷ rest → get_or (map (renumbered number) (take i lines) ++ drop i lines) i d ≡ get_or lines i d
walked_from number lines rest i d lt is =
    let done = map (renumbered number) (take i lines) in
    let long : length done ≡ i = length-map (take i lines) (renumbered number) ∙ length-take-le i lines (omega (arith, lt)) in
    ap (λ ls. get_or (done ++ ls) i d) is ∙ ap (λ k. get_or (done ++ get_or lines i d ∷ rest) k d) (sym long) ∙ get_or-append_seam done (get_or lines i d) rest d

pub cited_walked : (P : ℕ → Type 0) (number : ℕ → ℕ) (lines before : List PlainLine) (i : ℕ) (line : PlainLine) → All P (rules_cited lines) → i < length lines → before ≡ map (renumbered number) (take i lines) ++ drop i lines → line ≡ get_or before i line → All P (rules_of_reason line.reason)
cited_walked P number lines before i line all lt so_far read =
    let same : line ≡ get_or lines i line = read ∙ ap (λ ls. get_or ls i line) so_far ∙ walked_from number lines _ i line lt (drop_more lines i line lt) in
    subst (λ l. All P (rules_of_reason l.reason)) (sym same) (cited_at P lines i line all lt)

-- one more line with new numbers
pub renumbered_one : (number : ℕ → ℕ) (lines before after : List PlainLine) (i : ℕ) (line new : PlainLine) → i < length lines → before ≡ map (renumbered number) (take i lines) ++ drop i lines → line ≡ get_or before i line → new ≡ renumbered number line → after ≡ set before i new
    → after ≡ map (renumbered number) (take (i + 1) lines) ++ drop (i + 1) lines
renumbered_one number lines before after i line new lt so_far read is made = made ∙ ap (set before i) is ∙ map_over_more (renumbered number) lines before i line lt so_far read
