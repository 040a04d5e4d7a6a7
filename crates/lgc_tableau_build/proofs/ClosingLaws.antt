-- What is made on a branch.
use Rattle.std.proofs.Common.{◌≡◌, ◌≢◌, ℕ, zero, suc, ◌+◌, ◌-◌, ◌<◌, Bool, true, false, List, [], ◌∷◌, ◌++◌, map, length, take, get_or, set, slice_get, Some, refl, ap, sym, ◌∙◌, subst, arith, ⊎_elim}
use Rattle.std.specs.Prelude.{Contains}
use Rattle.std.specs.List.{Any, All, list_all, zip}
use Rattle.std.proofs.lemmas.Bool.{or_left, true≢false}
use Rattle.std.proofs.lemmas.List.{map-append, length-map, take_more, get_or_default}
use Rattle.std.proofs.lemmas.List.Elements.{All-nil, All-cons, All-head, All-tail, All-append, All-map, All-contains, Contains-get_or, Contains-append_left}
use Rattle.std.proofs.lemmas.Option.{slice_get_within, get_or_from_slice_get}
use Rattle.lgc_values.specs.Values.{has}
use Rattle.lgc_values.specs.Logic.{Logic, IsLogic, operator_at}
use Rattle.lgc_clauses.specs.Rules.{some_in, OperatorRule, of_operator}
use Rattle.lgc_clauses.specs.Rules as clause_rules
use Rattle.lgc_clauses.specs.Exactness.{IsExact}
use Rattle.lgc_syntax.specs.declared.formula.Formula.{Formula, Op}
use Rattle.lgc_syntax.specs.Fits.{Fits}
use Rattle.lgc_syntax.specs.Values.{value, IsValuation}
use Rattle.lgc_syntax.specs.Subformulas.{IsSubformula}
use Rattle.lgc_syntax.proofs.SubformulaLaws.{op_fits}
use Rattle.lgc_syntax.proofs.ValueLaws.{value-Op}
use Rattle.lgc_sequents.specs.Signed.{SignedFormula}
use Rattle.lgc_sequents.specs.Sequents.{is_true_at}
use Rattle.lgc_sequents.specs.Steps.{carries}
use Rattle.lgc_calculus.specs.Calculus.{IsRightRule}
use Rattle.lgc_calculus.specs.Arguments.{IsExactAtArguments}
use Rattle.lgc_calculus.specs.RuleBook.{IsRightBook, IsNumberFor}
use Rattle.lgc_goals.proofs.TruthValues.{HasValues-value}
use Rattle.lgc_numbering.specs.declared.node.Node.{Node}
use Rattle.lgc_numbering.specs.declared.node.Node.TheVariants.{Compound}
use Rattle.lgc_numbering.specs.Numbering.{formula_at, formula_of, IsNumbering, AreNodesOf}
use Rattle.lgc_numbering.proofs.NumberingLaws.{formula_at-is, one_number}
use Rattle.lgc_packed.specs.Packed.{marks, unpacked}
use Rattle.lgc_packed.specs.Packing.{AreKnown}
use Rattle.lgc_packed.proofs.PackLaws.{item_of}
use Rattle.lgc_lemmas.specs.Steps.{IsGrown}
use Rattle.lgc_lemmas.proofs.Truth.{exact_rules}
use Rattle.lgc_tableau.specs.declared.tableau.Tableau.{Closed, Split}
use Rattle.lgc_tableau.specs.ClosedTableaux.{PlainTableau, PlainCase, sets_of, rule_of, IsSplit, IsClosed, AreClosed, closed_by, split_on, none_left, one_more}
use Rattle.lgc_tableau.specs.OrderlyTableaux.{IsOrderlySplit, IsOrderly, AreOrderly, orderly_end, orderly_split, orderly_none, orderly_more}
use Rattle.lgc_tableau.proofs.ClosedLaws.{is_true_at-append}
use Rattle.lgc_tableau_build.specs.Numbers.{AreSigns, IsNoneFull, IsFirstFullNumber, is_left, IsFree}
use Rattle.lgc_tableau_build.specs.Building.{IsLeft, AreLeft, Settles, IsBranch, IsExpanded, AreSplit, IsMade, AreMade}
use Rattle.lgc_tableau_build.proofs.Settling.{settles_skip, settles_split, settled_false}
use Rattle.lgc_tableau_build.proofs.NumberLaws.{carries-number, unclosed_branch, first_full_formula, was, fewer, own_arguments}

-- ---- rules that grow

module _ (logic : Logic) (old new : List OperatorRule) (grown : IsGrown OperatorRule old new) (goal : List SignedFormula) where
  split_grown : (branch : List SignedFormula) (above : List Formula) (op : ℕ) (args : List Formula) (sign : List ℕ) (cases : List PlainCase) → IsOrderlySplit logic old goal branch above op args sign cases → IsOrderlySplit logic new goal branch above op args sign cases
  split_grown branch above op args sign cases split = record {
    unclosed = split.unclosed;
    part = split.part;
    once = split.once;
    known = subst (λ rules. Contains rules (rule_of op sign cases)) (sym grown.is) (Contains-append_left old grown.more (rule_of op sign cases) split.known);
    right = split.right;
  }

  mutual
    pub orderly_grown : (branch : List SignedFormula) (above : List Formula) (t : PlainTableau) → IsOrderly logic old goal branch above t → IsOrderly logic new goal branch above t
    orderly_grown _ _ _ (orderly_end branch above f first) = orderly_end branch above f first
    orderly_grown _ _ _ (orderly_split branch above op args sign cases split below) = orderly_split branch above op args sign cases (split_grown branch above op args sign cases split) (cases_grown branch (Op op args ∷ above) cases below)

    pub cases_grown : (branch : List SignedFormula) (above : List Formula) (cases : List PlainCase) → AreOrderly logic old goal branch above cases → AreOrderly logic new goal branch above cases
    cases_grown _ _ _ (orderly_none branch above) = orderly_none branch above
    cases_grown _ _ _ (orderly_more branch above case cases first rest) = orderly_more branch above case cases (orderly_grown (branch ++ case.added) above case.below first) (cases_grown branch above cases rest)

-- ---- one case more

closed_push : (logic : Logic) (branch : List SignedFormula) (cases : List PlainCase) (case : PlainCase) → AreClosed logic branch cases → IsClosed logic (branch ++ case.added) case.below → AreClosed logic branch (cases ++ case ∷ [])
closed_push logic _ _ case (none_left branch) one = one_more branch case [] one (none_left branch)
closed_push logic _ _ case (one_more branch first cases here rest) one = one_more branch first (cases ++ case ∷ []) here (closed_push logic branch cases case rest one)

orderly_push : (logic : Logic) (rules : List OperatorRule) (goal branch : List SignedFormula) (above : List Formula) (cases : List PlainCase) (case : PlainCase) → AreOrderly logic rules goal branch above cases → IsOrderly logic rules goal (branch ++ case.added) above case.below → AreOrderly logic rules goal branch above (cases ++ case ∷ [])
orderly_push logic rules goal _ _ _ case (orderly_none branch above) one = orderly_more branch above case [] one (orderly_none branch above)
orderly_push logic rules goal _ _ _ case (orderly_more branch above first cases here rest) one = orderly_more branch above first (cases ++ case ∷ []) here (orderly_push logic rules goal branch above cases case rest one)

pub unpacked-append : (formulas : List Formula) (xs ys : List (ℕ × List ℕ)) → unpacked formulas (xs ++ ys) ≡ unpacked formulas xs ++ unpacked formulas ys
unpacked-append formulas xs ys = map-append (item_of formulas) xs ys

module _ (logic : Logic) (formulas : List Formula) (left : List Bool) (branch : List (ℕ × List ℕ)) where
  pub no_cases : (rules : List OperatorRule) → AreMade logic rules formulas left branch [] []
  no_cases rules = record { added = refl; closed = none_left (unpacked formulas branch); orderly = λ goal above parts split. orderly_none (unpacked formulas branch) above }

  pub cases_more : (old new : List OperatorRule) → IsGrown OperatorRule old new → (additions : List (List (ℕ × List ℕ))) (addition : List (ℕ × List ℕ)) (cases : List PlainCase) (case : PlainCase)
      → case.added ≡ unpacked formulas addition → AreMade logic old formulas left branch additions cases → IsMade logic new formulas left (branch ++ addition) case.below → AreMade logic new formulas left branch (additions ++ addition ∷ []) (cases ++ case ∷ [])
  cases_more old new grown additions addition cases case added made one =
      let longer : unpacked formulas (branch ++ addition) ≡ unpacked formulas branch ++ case.added = unpacked-append formulas branch addition ∙ ap (λ items. unpacked formulas branch ++ items) (sym added) in
      record {
        added = map-append (λ (c : PlainCase). c.added) cases (case ∷ []) ∙ (λ i. made.added i ++ added i ∷ []) ∙ sym (map-append (unpacked formulas) additions (addition ∷ []));
        closed = closed_push logic (unpacked formulas branch) cases case made.closed (subst (λ b. IsClosed logic b case.below) longer one.closed);
        orderly = λ goal above parts split. orderly_push logic new goal (unpacked formulas branch) above cases case
            (cases_grown logic old new grown goal (unpacked formulas branch) above cases (made.orderly goal above parts split))
            (subst (λ b. IsOrderly logic new goal b above case.below) longer (one.orderly goal above parts split));
      }

  -- the next addition, as the loop reads it
  pub cases_taken : (old new : List OperatorRule) → IsGrown OperatorRule old new → (additions : List (List (ℕ × List ℕ))) (i : ℕ) (addition : List (ℕ × List ℕ)) → i < length additions → addition ≡ get_or additions i addition
      → (items : List (ℕ × List ℕ)) → items ≡ addition → (more : List (ℕ × List ℕ)) → more ≡ addition → (cases after : List PlainCase) (case : PlainCase) → after ≡ cases ++ case ∷ [] → case.added ≡ unpacked formulas items
      → (longer : List (ℕ × List ℕ)) → longer ≡ branch ++ more → AreMade logic old formulas left branch (take i additions) cases → IsMade logic new formulas left longer case.below → AreMade logic new formulas left branch (take (i + 1) additions) after
  cases_taken old new grown additions i addition lt read items is_items more is_more cases after case pushed added longer is_longer made one =
      let taken : take (i + 1) additions ≡ take i additions ++ addition ∷ [] = take_more additions i addition lt ∙ ap (λ x. take i additions ++ x ∷ []) (sym read) in
      let Made : List (List (ℕ × List ℕ)) → List PlainCase → Type 0 = AreMade logic new formulas left branch in
      let next : Made (take i additions ++ addition ∷ []) (cases ++ case ∷ []) = cases_more old new grown (take i additions) addition cases case (added ∙ ap (unpacked formulas) is_items) made
      (subst (λ b. IsMade logic new formulas left b case.below) (is_longer ∙ ap (λ x. branch ++ x) is_more) one) in
      subst (Made (take (i + 1) additions)) (sym pushed) (subst (λ xs. Made xs (cases ++ case ∷ [])) (sym taken) next)

-- ---- the end of a branch

module _ (logic : Logic) (is : IsLogic logic) (formulas : List Formula) (numbering : IsNumbering formulas) (left : List Bool) (branch : List (ℕ × List ℕ)) where
  some : 0 < logic.size
  some = omega (arith, is.sized.low)

  pub end_made : (rules : List OperatorRule) → AreKnown formulas branch → (k : ℕ) (f : Formula) → slice_get formulas k ≡ Some f → IsFirstFullNumber logic.size branch k → IsMade logic rules formulas left branch (Closed f)
  end_made rules known k f at first =
      let formula = first_full_formula logic.size some formulas numbering branch known k f at first in
      record { closed = closed_by (unpacked formulas branch) f formula.full; orderly = λ goal above parts split. orderly_end (unpacked formulas branch) above f formula }

  -- where nothing is left, a branch that is true under every valuation isn't unclosed
  pub never_open : IsBranch logic formulas left branch → IsNoneFull logic.size branch → ((k : ℕ) → is_left left k ≡ false) → ⊥
  never_open is_branch none nothing =
      let false_at = settled_false logic (IsLeft formulas left) (unpacked formulas branch)
      (λ f l. ⊎_elim (λ atom. atom) (λ (there : (k : ℕ) × (is_left left k ≡ true) × (slice_get formulas k ≡ Some f)). absurd (true≢false (sym there.1 ∙ nothing there.0))) l)
      (unclosed_branch logic.size some formulas numbering branch is_branch.known none) is_branch.settles in
      true≢false (sym (is_branch.holds false_at.0 false_at.1) ∙ false_at.2)

-- ---- clauses at arguments

-- the sets and the formulas of a clause at arguments
zip_parts : (formulas : List Formula) (args : List ℕ) (sets : List (List ℕ)) → length sets ≡ length args
    → (map (λ item. item.sign) (unpacked formulas (zip args sets)) ≡ sets) × (map (λ item. item.formula) (unpacked formulas (zip args sets)) ≡ map (formula_at formulas) args)
zip_parts formulas [] [] same = (refl, refl)
zip_parts formulas [] (s ∷ sets) same = absurd (omega (arith, same))
zip_parts formulas (a ∷ args) [] same = absurd (omega (arith, same))
zip_parts formulas (a ∷ args) (s ∷ sets) same =
    let rest = zip_parts formulas args sets (omega (arith, same)) in
    (ap (λ more. s ∷ more) rest.0, ap (λ more. formula_at formulas a ∷ more) rest.1)

zip_known : (n : ℕ) (args : List ℕ) (sets : List (List ℕ)) → All (λ a. a < n) args → All (λ (p : ℕ × List ℕ). p.0 < n) (zip args sets)
zip_known n [] sets all = All-nil (λ (p : ℕ × List ℕ). p.0 < n)
zip_known n (a ∷ args) [] all = All-nil (λ (p : ℕ × List ℕ). p.0 < n)
zip_known n (a ∷ args) (s ∷ sets) all = All-cons (λ (p : ℕ × List ℕ). p.0 < n) (a, s) (zip args sets) (All-head (λ k. k < n) a args all) (zip_known n args sets (All-tail (λ k. k < n) a args all))

pub clauses_known : (formulas : List Formula) (args : List ℕ) (clauses : List (List (List ℕ))) → All (λ a. a < length formulas) args → All (AreKnown formulas) (map (zip args) clauses)
clauses_known formulas args clauses all = All-map (AreKnown formulas) (zip args) clauses (λ i d lt. zip_known (length formulas) args (get_or clauses i d) all)

-- ---- the rule of a compound

module _ (formulas : List Formula) (nodes : List Node) (are : AreNodesOf formulas nodes) (k op : ℕ) (args : List ℕ) (there : slice_get nodes k ≡ Some (Compound op args)) where
  args_known : All (λ a. a < length formulas) args
  args_known = λ i d lt.
      let before = are.over k (Compound op args) there i d lt in
      let within = slice_get_within formulas k (formula_of formulas (Compound op args)) (are.formula k (Compound op args) there) in
      omega (arith, before, within)

  pub additions_known : (clauses : List (List (List ℕ))) (read : List ℕ) → read ≡ args → (pairs : List (List (ℕ × List ℕ))) → pairs ≡ map (zip read) clauses → All (AreKnown formulas) pairs
  additions_known clauses read same pairs made = subst (All (AreKnown formulas)) (sym (made ∙ ap (λ numbers. map (zip numbers) clauses) same)) (clauses_known formulas args clauses args_known)

  pub expanded_by : (rules : List OperatorRule) (sign : List ℕ) (number : ℕ) → IsNumberFor rules op sign number → (listed : List OperatorRule) → listed ≡ rules → (rule : OperatorRule) → rule ≡ get_or listed (number - 1) rule
      → (clauses : List (List (List ℕ))) → clauses ≡ rule.clauses → (read : List ℕ) → read ≡ args → (pairs : List (List (ℕ × List ℕ))) → pairs ≡ map (zip read) clauses → IsExpanded rules formulas k sign pairs
  expanded_by rules sign number found listed same rule at clauses are_clauses read is_read pairs made =
      let it = found.rule in
      let own : rule ≡ it = at ∙ ap (λ rs. get_or rs (number - 1) rule) same ∙ get_or_from_slice_get rules (number - 1) it rule found.place in
      let at_it : get_or rules (number - 1) it ≡ it = get_or_from_slice_get rules (number - 1) it it found.place in
      record {
        rule = it;
        known = subst (Contains rules) at_it (Contains-get_or rules (number - 1) it (slice_get_within rules (number - 1) it found.place));
        signed = found.signed;
        args = args;
        numbers = args_known;
        compound = are.formula k (Compound op args) there ∙ ap (λ o. Some (Op o (map (formula_at formulas) args))) (sym found.operator);
        is = made ∙ (λ i. map (zip (is_read i)) ((are_clauses ∙ ap (λ (r : OperatorRule). r.clauses) own) i));
      }

pub known_operator : (logic : Logic) (formulas : List Formula) (nodes : List Node) → All (Fits logic) formulas → AreNodesOf formulas nodes → (k op : ℕ) (args : List ℕ) → slice_get nodes k ≡ Some (Compound op args) → op < length logic.operators
known_operator logic formulas nodes fit are k op args there =
    let f = formula_of formulas (Compound op args) in
    let at = are.formula k (Compound op args) there in
    (op_fits logic op (map (formula_at formulas) args) (subst (Fits logic) (get_or_from_slice_get formulas k f f at) (fit k f (slice_get_within formulas k f at)))).0

-- cases that add the clauses of a rule at arguments have an item for each argument, and the clauses as their sets
read_cases : (formulas : List Formula) (args : List ℕ) (clauses : List (List (List ℕ))) (cases : List PlainCase) → map (λ case. case.added) cases ≡ map (unpacked formulas) (map (zip args) clauses) → All (λ sets. length sets ≡ length args) clauses
    → All (λ case. map (λ item. item.formula) case.added ≡ map (formula_at formulas) args) cases × (map sets_of cases ≡ clauses)
read_cases formulas args [] [] same widths = (All-nil (λ case. map (λ item. item.formula) case.added ≡ map (formula_at formulas) args), refl)
read_cases formulas args [] (case ∷ cases) same widths = cc
read_cases formulas args (sets ∷ clauses) [] same widths = cc
read_cases formulas args (sets ∷ clauses) (case ∷ cases) same widths =
    let first : case.added ≡ unpacked formulas (zip args sets) = cc in
    let later : map (λ (c : PlainCase). c.added) cases ≡ map (unpacked formulas) (map (zip args) clauses) = cc in
    let parts = zip_parts formulas args sets (All-head (λ (s : List (List ℕ)). length s ≡ length args) sets clauses widths) in
    let rest = read_cases formulas args clauses cases later (All-tail (λ (s : List (List ℕ)). length s ≡ length args) sets clauses widths) in (
      All-cons (λ (c : PlainCase). map (λ item. item.formula) c.added ≡ map (formula_at formulas) args) case cases (ap (map (λ item. item.formula)) first ∙ parts.1) rest.0,
      λ i. (ap (map (λ item. item.sign)) first ∙ parts.0) i ∷ rest.1 i,
    )

get_or_own : {X : Type 0} (xs : List X) (i : ℕ) (d : X) → i < length xs → get_or xs i (get_or xs i d) ≡ get_or xs i d
get_or_own [] i d lt = absurd (omega (arith, lt))
get_or_own (x ∷ xs) zero d lt = refl
get_or_own (x ∷ xs) (suc i) d lt = get_or_own xs i d (omega (arith, lt))

formula_there : (g h : Formula) → Some g ≡ Some h → g ≡ h
formula_there g h e = cc

-- ---- a formula that is left

-- its sign among those of all formulas
pub signs_at : (logic : Logic) (n : ℕ) → logic.size ≡ n → (formulas : List Formula) (nodes : List Node) → AreNodesOf formulas nodes → (left : List Bool) → AreLeft formulas left → (branch : List (ℕ × List ℕ)) (signs : List (List ℕ)) → length signs ≡ length nodes → AreSigns n branch signs
    → (k : ℕ) → is_left left k ≡ true → (sign : List ℕ) → sign ≡ get_or signs k sign → (w : ℕ) → w < logic.size → has sign w ≡ marks branch k w
signs_at logic n size formulas nodes are left are_left branch signs count are_signs k is sign read w lt =
    let compound = are_left.compounds k is in
    let within = slice_get_within formulas k (Op compound.0 compound.1) compound.2 in
    let there : k < length signs = omega (arith, within, count, are.count) in
    ap (λ s. has s w) (read ∙ get_or_default signs k sign [] there) ∙ are_signs k w (subst (λ m. w < m) size lt)

module _ (logic : Logic) (is : IsLogic logic) (formulas : List Formula) (numbering : IsNumbering formulas) (fit : All (Fits logic) formulas) (nodes : List Node) (are : AreNodesOf formulas nodes) (left : List Bool) (are_left : AreLeft formulas left)
    (branch : List (ℕ × List ℕ)) (is_branch : IsBranch logic formulas left branch) (k : ℕ) (free : IsFree nodes left k) (sign : List ℕ) (signs : (w : ℕ) → w < logic.size → has sign w ≡ marks branch k w) where
  abbrev rest : List Bool
  rest = set left k false

  compound : (op : ℕ) × (args : List Formula) × (slice_get formulas k ≡ Some (Op op args))
  compound = are_left.compounds k free.is

  carried : (w : ℕ) → w < logic.size → has sign w ≡ carries (unpacked formulas branch) (formula_at formulas k) w
  carried w lt = signs w lt ∙ sym (carries-number formulas branch k w numbering is_branch.known (slice_get_within formulas k (Op compound.0 compound.1) compound.2))

  -- without a formula that has no value
  pub skipped : sign ≡ [] → IsBranch logic formulas rest branch
  skipped none =
      let at = compound.2 in
      let f = Op compound.0 compound.1 in
      record {
        known = is_branch.known;
        settles = settles_skip logic is (IsLeft formulas left) (IsLeft formulas rest) (unpacked formulas branch) f (fewer formulas numbering nodes are left are_left k free f at)
            (λ w lt. ap (λ g. carries (unpacked formulas branch) g w) (sym (formula_at-is formulas k f at)) ∙ sym (carried w lt) ∙ ap (λ s. has s w) none) is_branch.settles;
        holds = is_branch.holds;
      }

  -- a tableau on the branch without a formula that isn't split
  pub skip_made : (rules : List OperatorRule) (t : PlainTableau) → IsMade logic rules formulas rest branch t → IsMade logic rules formulas left branch t
  skip_made rules t made = record {
    closed = made.closed;
    orderly = λ goal above parts split. made.orderly goal above parts (λ j f l at there. split j f (was formulas numbering nodes are left are_left k free j l).1 at there);
  }

  -- where a formula is split, neither it nor those above are left
  split_rest : (above : List Formula) (f : Formula) → slice_get formulas k ≡ Some f → AreSplit formulas left above → AreSplit formulas rest (f ∷ above)
  split_rest above f at split j g l there (zero, lt, same) =
      let other = was formulas numbering nodes are left are_left k free j l in
      let j_in = slice_get_within formulas j g there in
      let k_in = slice_get_within formulas k f at in
      other.0 (one_number formulas numbering.distinct j k j_in k_in (formula_at-is formulas j g there ∙ sym same ∙ sym (formula_at-is formulas k f at)))
  split_rest above f at split j g l there (suc i, lt, same) = split j g (was formulas numbering nodes are left are_left k free j l).1 there (i, omega (arith, lt), same)

  module _ (rules : List OperatorRule) (right : IsRightBook logic rules) (additions : List (List (ℕ × List ℕ))) (expanded : IsExpanded rules formulas k sign additions) where
    abbrev rule : OperatorRule
    rule = expanded.rule

    abbrev arguments : List Formula
    arguments = map (formula_at formulas) expanded.args

    abbrev f : Formula
    f = Op rule.op arguments

    right_rule : IsRightRule logic (of_operator rule)
    right_rule = All-contains (λ r. IsRightRule logic (of_operator r)) rules rule right.right expanded.known

    fits : Fits logic f
    fits = subst (Fits logic) (get_or_from_slice_get formulas k f f expanded.compound) (fit k f (slice_get_within formulas k f expanded.compound))

    arity : length arguments ≡ (operator_at logic rule.op).arity
    arity = (op_fits logic rule.op arguments fits).1

    whole : (w : ℕ) → w < logic.size → has sign w ≡ carries (unpacked formulas branch) f w
    whole w lt = carried w lt ∙ ap (λ g. carries (unpacked formulas branch) g w) (formula_at-is formulas k f expanded.compound)

    widths : All (λ sets. length sets ≡ length expanded.args) rule.clauses
    widths = λ i d lt. right_rule.fits.formed i d lt ∙ sym arity ∙ length-map expanded.args (formula_at formulas)

    exact : (v : Formula → ℕ) → IsValuation logic v → has sign (value logic v f) ≡ list_all (λ sets. some_in sets (map (value logic v) arguments)) rule.clauses
    exact v valuation =
        ap (λ s. has s (value logic v f)) (sym expanded.signed)
        ∙ ap (has rule.sign) (value-Op logic v rule.op arguments)
        ∙ All-contains (IsExactAtArguments logic) rules rule (exact_rules logic rules is right) expanded.known (map (value logic v) arguments) (length-map arguments (value logic v) ∙ arity)
        (All-map (λ w. w < logic.size) (value logic v) arguments (λ i d lt. HasValues-value logic is v valuation (get_or arguments i d)))

    one_branch : (i : ℕ) (sets : List (List ℕ)) → i < length rule.clauses → get_or rule.clauses i sets ≡ sets → length sets ≡ length expanded.args → IsBranch logic formulas rest (branch ++ zip expanded.args sets)
    one_branch i sets lt at width =
        let addition = zip expanded.args sets in
        let added = unpacked formulas addition in
        let parts = zip_parts formulas expanded.args sets width in
        record {
          known = All-append (λ (p : ℕ × List ℕ). p.0 < length formulas) branch addition is_branch.known (zip_known (length formulas) expanded.args sets expanded.numbers);
          settles = subst (Settles logic (IsLeft formulas rest)) (sym (unpacked-append formulas branch addition))
              (settles_split logic is (IsLeft formulas left) (IsLeft formulas rest) (unpacked formulas branch) added rule.op arguments sign rule.clauses i whole exact lt
              (subst (λ s. get_or rule.clauses i s ≡ s) (sym parts.0) at) parts.1
              (own_arguments formulas numbering nodes are left are_left k free rule.op arguments expanded.compound)
              (fewer formulas numbering nodes are left are_left k free f expanded.compound) is_branch.settles);
          holds = λ v valuation. ap (is_true_at (value logic v)) (unpacked-append formulas branch addition) ∙ is_true_at-append (value logic v) (unpacked formulas branch) added
              ∙ or_left (is_true_at (value logic v) (unpacked formulas branch)) (is_true_at (value logic v) added) (is_branch.holds v valuation);
        }

    pub branches : All (λ added. IsBranch logic formulas rest (branch ++ added)) additions
    branches = subst (All (λ added. IsBranch logic formulas rest (branch ++ added))) (sym expanded.is)
        (All-map (λ added. IsBranch logic formulas rest (branch ++ added)) (zip expanded.args) rule.clauses
        (λ i d lt. one_branch i (get_or rule.clauses i d) lt (get_or_own rule.clauses i d lt) (widths i d lt)))

    pub split_made : (new : List OperatorRule) → IsGrown OperatorRule rules new → sign ≢ [] → IsNoneFull logic.size branch → (g : Formula) → slice_get formulas k ≡ Some g → (cases : List PlainCase)
        → AreMade logic new formulas rest branch additions cases → IsMade logic new formulas left branch (Split (record { formula = g; sign = sign }) cases)
    split_made new grown some none g at cases made =
        let read = read_cases formulas expanded.args rule.clauses cases (made.added ∙ ap (map (unpacked formulas)) expanded.is) widths in
        let same : rule ≡ rule_of rule.op sign cases = λ i. record { op = rule.op; sign = expanded.signed i; clauses = sym read.1 i } in
        let is_f : f ≡ g = formula_there f g (sym expanded.compound ∙ at) in
        let b = unpacked formulas branch in
        let split : IsSplit logic b rule.op arguments sign cases = record {
          nonempty = some;
          whole = whole;
          arity = arity;
          formulas = read.0;
          fits = subst (λ r. clause_rules.Fits logic (of_operator r)) same right_rule.fits;
          exact = subst (λ r. IsExact logic (of_operator r)) same right_rule.exact;
        } in
        record {
          closed = subst (λ h. IsClosed logic b (Split (record { formula = h; sign = sign }) cases)) is_f (split_on b rule.op arguments sign cases split made.closed);
          orderly = λ goal above parts above_split.
              let own : IsOrderlySplit logic new goal b above rule.op arguments sign cases = record {
                unclosed = unclosed_branch logic.size (omega (arith, is.sized.low)) formulas numbering branch is_branch.known none;
                part = subst (λ h. Any (λ item. IsSubformula h item.formula) goal) (get_or_from_slice_get formulas k f f expanded.compound) (parts k f (slice_get_within formulas k f expanded.compound));
                once = λ there. above_split k f free.is expanded.compound there;
                known = subst (λ rs. Contains rs (rule_of rule.op sign cases)) (sym grown.is) (Contains-append_left rules grown.more (rule_of rule.op sign cases) (subst (Contains rules) same expanded.known));
                right = subst (λ r. IsRightRule logic (of_operator r)) same right_rule;
              } in
              subst (λ h. IsOrderly logic new goal b above (Split (record { formula = h; sign = sign }) cases)) is_f
              (orderly_split b above rule.op arguments sign cases own (made.orderly goal (f ∷ above) parts (split_rest above f expanded.compound above_split)));
        }
