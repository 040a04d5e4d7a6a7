-- A goal by numbers, and what is built for it.
use Rattle.std.proofs.Common.{◌≡◌, ◌≢◌, ℕ, zero, suc, ◌+◌, ◌<◌, ◌≤◌, ◌⊎◌, inl, inr, ◌||◌, cond, Bool, true, false, List, [], ◌∷◌, ◌++◌, map, length, take, get_or, slice_get, slice_index, Some, refl, ap, sym, ◌∙◌, subst, arith}
use Rattle.std.specs.Prelude.{Contains}
use Rattle.std.specs.List.{Any, All}
use Rattle.std.proofs.lemmas.Bool.{cases_lt, true≢false}
use Rattle.std.proofs.lemmas.List.{take_more, take_all, map-append, get_or-map, length-map}
use Rattle.std.proofs.lemmas.List.Elements.{All-head, All-tail, All-push, All-map, All-weaker, All-contains, Contains-append_left, Contains-push}
use Rattle.std.proofs.lemmas.Option.{slice_get_within, get_or_from_slice_get}
use Rattle.lgc_values.specs.Values.{has}
use Rattle.lgc_values.specs.Logic.{Logic, IsLogic}
use Rattle.lgc_clauses.specs.Rules.{OperatorRule}
use Rattle.lgc_syntax.specs.declared.formula.Formula.{Formula, Op, Quant}
use Rattle.lgc_syntax.specs.Equality.{same_formula}
use Rattle.lgc_syntax.specs.Fits.{Fits}
use Rattle.lgc_syntax.specs.Sizes.{has_quantifier}
use Rattle.lgc_syntax.specs.Subformulas.{IsSubformula, itself, of_argument, of_body}
use Rattle.lgc_syntax.specs.Values.{listed, value, IsValuation}
use Rattle.lgc_syntax.proofs.SubformulaLaws.{quantified, item_propositional, arguments_propositional}
use Rattle.lgc_sequents.specs.Signed.{SignedFormula}
use Rattle.lgc_sequents.specs.Sequents.{is_true_at}
use Rattle.lgc_meaning.specs.Valuations.{is_atom, IsEntries}
use Rattle.lgc_goals.proofs.TruthValues.{HasValues-value}
use Rattle.lgc_numbering.specs.declared.node.Node.{Node}
use Rattle.lgc_numbering.specs.declared.node.Node.TheVariants.{Atom}
use Rattle.lgc_numbering.specs.Numbering.{formula_at, IsNumbering, AreNodesOf}
use Rattle.lgc_numbering.specs.Growth.{IsGrownBy}
use Rattle.lgc_numbering.proofs.Lists.{map-alike}
use Rattle.lgc_numbering.proofs.GrowthLaws.{grown_long}
use Rattle.lgc_numbering.proofs.NumberingLaws.{formula_at-is, formula_at-left, at-formula_at}
use Rattle.lgc_numbering.proofs.ValueLaws.{value_of_compound, values_are}
use Rattle.lgc_packed.specs.Packed.{unpacked}
use Rattle.lgc_packed.specs.Packing.{AreKnown}
use Rattle.lgc_packed.proofs.PackLaws.{item_of}
use Rattle.lgc_decision.specs.Atoms.{IsEntryBelow}
use Rattle.lgc_sequents.specs.Everywhere.{IsTrueEverywhere, IsCounterexample}
use Rattle.lgc_decision.specs.Decided.{AreSubformulasOf}
use Rattle.lgc_decision.proofs.DecisionLaws.{no_atoms, all_atoms, unlisted, one_atom, no_atom, node_of_atom}
use Rattle.lgc_tableau.specs.ClosedTableaux.{PlainTableau, IsClosed}
use Rattle.lgc_tableau.specs.OrderlyTableaux.{IsOrderly}
use Rattle.lgc_tableau_build.specs.Built.{IsTableauFor, IsValuationAgainst}
use Rattle.lgc_tableau_build.specs.Numbers.{IsNumbered}
use Rattle.lgc_tableau_build.specs.Building.{IsLeft, IsBranch, IsMade, ListsAtomsBelow}
use Rattle.lgc_tableau_build.proofs.Settling.{settles_start}
use Rattle.lgc_tableau_build.proofs.NumberLaws.{numbered_left, start}

-- ---- numbering a goal

pub none_numbered : (formulas : List Formula) (items : List SignedFormula) → IsNumbered formulas (take 0 items) []
none_numbered formulas items = record { known = λ i d lt. absurd (omega (arith, lt)); same = refl }

-- the pairs keep their formulas where more stand behind them
kept_items : (P : Formula → Type 0) (old new : List Formula) (pairs : List (ℕ × List ℕ)) → IsGrownBy P old new → AreKnown old pairs → unpacked new pairs ≡ unpacked old pairs
kept_items P old new pairs more known = map-alike (item_of new) (item_of old) pairs (λ i d lt j. record { formula = (ap (λ fs. formula_at fs (get_or pairs i d).0) more.is ∙ formula_at-left old more.added (get_or pairs i d).0 (known i d lt)) j; sign = (get_or pairs i d).1 })

pub one_numbered : (P : Formula → Type 0) (old new : List Formula) (items : List SignedFormula) (i : ℕ) (item : SignedFormula) (pairs after : List (ℕ × List ℕ)) (k : ℕ) → i < length items → item ≡ get_or items i item → IsGrownBy P old new
    → IsNumbered old (take i items) pairs → slice_get new k ≡ Some item.formula → after ≡ pairs ++ (k, item.sign) ∷ [] → IsNumbered new (take (i + 1) items) after
one_numbered P old new items i item pairs after k lt read more is at made = subst (IsNumbered new (take (i + 1) items)) (sym made) (record {
  known = All-push (λ (p : ℕ × List ℕ). p.0 < length new) pairs (k, item.sign) (λ j d l. let below = is.known j d l in let long = grown_long P old new more in omega (arith, below, long)) (slice_get_within new k item.formula at);
  same =
      map-append (item_of new) pairs ((k, item.sign) ∷ [])
      ∙ (λ j. (kept_items P old new pairs more is.known ∙ is.same) j ++ record { formula = formula_at-is new k item.formula at j; sign = item.sign } ∷ [])
      ∙ sym (take_more items i item lt ∙ ap (λ x. take i items ++ x ∷ []) (sym read));
})

pub all_numbered : (formulas : List Formula) (items all : List SignedFormula) (i : ℕ) (pairs : List (ℕ × List ℕ)) → IsNumbered formulas (take i items) pairs → length items ≤ i → items ≡ all → IsNumbered formulas all pairs
all_numbered formulas items all i pairs is done same = subst (λ xs. IsNumbered formulas xs pairs) (take_all i items done ∙ same) is

-- ---- the goal as a branch

module _ (logic : Logic) (is : IsLogic logic) (formulas : List Formula) (numbering : IsNumbering formulas) (nodes : List Node) (are : AreNodesOf formulas nodes) (goal : List SignedFormula) (branch : List (ℕ × List ℕ)) (numbered : IsNumbered formulas goal branch) where
  pub start_branch : IsTrueEverywhere logic goal → IsBranch logic formulas (start formulas numbering nodes are) branch
  start_branch holds = record {
    known = numbered.known;
    settles = settles_start logic is (IsLeft formulas (start formulas numbering nodes are)) (unpacked formulas branch) (each branch numbered.known);
    holds = subst (IsTrueEverywhere logic) (sym numbered.same) holds;
  }
    where
      each : (pairs : List (ℕ × List ℕ)) → AreKnown formulas pairs → All (λ item. IsLeft formulas (start formulas numbering nodes are) item.formula) (unpacked formulas pairs)
      each pairs known i d lt =
          let long : i < length pairs = omega (arith, lt, length-map pairs (item_of formulas)) in
          let pair = get_or pairs i (0, []) in
          let read = get_or-map (item_of formulas) pairs i (0, []) d long in
          let Own : SignedFormula → Type 0 = λ item. IsLeft formulas (start formulas numbering nodes are) item.formula in
          subst Own (sym read) (numbered_left formulas numbering nodes are pair.0 (formula_at formulas pair.0) (at-formula_at formulas pair.0 (known i (0, []) long)))

  pub tableau_for : (rules : List OperatorRule) (left : List Bool) (t : PlainTableau) → AreSubformulasOf goal formulas → IsMade logic rules formulas left branch t → IsTableauFor logic rules goal t
  tableau_for rules left t parts made = record {
    closed = subst (λ b. IsClosed logic b t) numbered.same made.closed;
    orderly = subst (λ b. IsOrderly logic rules goal b [] t) numbered.same (made.orderly goal [] parts (λ k f l at there. absurd (omega (arith, there.1))));
  }

-- ---- the numbered atoms

pub value_there : (logic : Logic) (v : Formula → ℕ) (formulas : List Formula) (k : ℕ) (f : Formula) → slice_get formulas k ≡ Some f → slice_index (map (value logic v) formulas) k ≡ value logic v f
value_there logic v formulas k f at = get_or-map (value logic v) formulas k f 0 (slice_get_within formulas k f at) ∙ ap (value logic v) (get_or_from_slice_get formulas k f f at)

module _ (formulas : List Formula) (values : List ℕ) where
  pub none_listed : ListsAtomsBelow 0 formulas values []
  none_listed = record { valued = no_atoms formulas values; each = λ k f lt at atom. absurd (omega (arith, lt)) }

  pub all_listed : (n : ℕ) (entries : List (Formula × ℕ)) → length formulas ≤ n → ListsAtomsBelow n formulas values entries → ListsAtomsBelow (length formulas) formulas values entries
  all_listed n entries le lists = record { valued = all_atoms formulas values n entries le lists.valued; each = λ k f lt at atom. lists.each k f (omega (arith, lt, le)) at atom }

  module _ (numbering : IsNumbering formulas) (k : ℕ) (f : Formula) (at : slice_get formulas k ≡ Some f) (entries : List (Formula × ℕ)) (lists : ListsAtomsBelow k formulas values entries) where
    pub unlisted_yet : All (λ entry. entry.0 ≢ f) entries
    unlisted_yet = unlisted formulas values numbering k f at entries lists.valued

    pub one_listed : (v : ℕ) → v ≡ slice_index values k → ListsAtomsBelow (k + 1) formulas values (entries ++ (f, v) ∷ [])
    one_listed v is = record { valued = one_atom formulas values numbering k f at entries lists.valued v is; each = λ j g lt there atom. by j g lt there atom (cases_lt j k) }
      where
        by : (j : ℕ) (g : Formula) → j < k + 1 → slice_get formulas j ≡ Some g → is_atom g ≡ true → (j < k) ⊎ (k ≤ j) → Contains (map (λ entry. entry.0) (entries ++ (f, v) ∷ [])) g
        by j g lt there atom (inl less) =
            subst (λ fs. Contains fs g) (sym (map-append (λ (entry : Formula × ℕ). entry.0) entries ((f, v) ∷ []))) (Contains-append_left (map (λ entry. entry.0) entries) (f ∷ []) g (lists.each j g less there atom))
        by j g lt there atom (inr more) =
            let e : j ≡ k = omega (arith, lt, more) in
            let found : Some g ≡ Some f = sym there ∙ ap (slice_get formulas) e ∙ at in
            let same : g ≡ f = cc in
            subst (Contains (map (λ entry. entry.0) (entries ++ (f, v) ∷ []))) (sym same)
            (subst (λ fs. Contains fs f) (sym (map-append (λ (entry : Formula × ℕ). entry.0) entries ((f, v) ∷ []))) (Contains-push (map (λ entry. entry.0) entries) f))

    pub no_more_listed : is_atom f ≡ false → ListsAtomsBelow (k + 1) formulas values entries
    no_more_listed other = record { valued = no_atom formulas values numbering k f at entries lists.valued other; each = λ j g lt there atom. by j g lt there atom (cases_lt j k) }
      where
        by : (j : ℕ) (g : Formula) → j < k + 1 → slice_get formulas j ≡ Some g → is_atom g ≡ true → (j < k) ⊎ (k ≤ j) → Contains (map (λ entry. entry.0) entries) g
        by j g lt there atom (inl less) = lists.each j g less there atom
        by j g lt there atom (inr more) =
            let e : j ≡ k = omega (arith, lt, more) in
            let found : Some g ≡ Some f = sym there ∙ ap (slice_get formulas) e ∙ at in
            let same : g ≡ f = cc in
            absurd (true≢false (sym atom ∙ ap is_atom same ∙ other))

-- ---- a valuation of the goal's atoms

module _ (logic : Logic) (is : IsLogic logic) (formulas : List Formula) (numbering : IsNumbering formulas) (nodes : List Node) (are : AreNodesOf formulas nodes) (fit : All (Fits logic) formulas) (goal : List SignedFormula) (propositional : All (λ item. has_quantifier item.formula ≡ false) goal)
    (branch : List (ℕ × List ℕ)) (numbered : IsNumbered formulas goal branch) (parts : AreSubformulasOf goal formulas) (old : List (Formula × ℕ)) (counter : IsCounterexample logic goal old) (entries : List (Formula × ℕ))
    (lists : ListsAtomsBelow (length formulas) formulas (map (value logic (listed old)) formulas) entries) where
  abbrev v : Formula → ℕ
  v = listed old

  listed_below : (pairs : List (Formula × ℕ)) → All (λ entry. Fits logic entry.0 × (entry.1 < logic.size)) pairs → IsValuation logic (listed pairs)
  listed_below [] all f = omega (arith, is.sized.low)
  listed_below (entry ∷ pairs) all f = by (same_formula f entry.0) (listed_below pairs (All-tail (λ (e : Formula × ℕ). Fits logic e.0 × (e.1 < logic.size)) entry pairs all) f)
    where
      by : (b : Bool) → listed pairs f < logic.size → cond b entry.1 (listed pairs f) < logic.size
      by true rest = (All-head (λ (e : Formula × ℕ). Fits logic e.0 × (e.1 < logic.size)) entry pairs all).1
      by false rest = rest

  same_values : (k : ℕ) → k < length nodes → value logic v (formula_at formulas k) ≡ value logic (listed entries) (formula_at formulas k)
  same_values = values_are logic (listed entries) formulas nodes are (λ k. value logic v (formula_at formulas k))
      (λ k atom at.
      let there = are.formula k (Atom atom) at in
      ap (value logic v) (formula_at-is formulas k atom there) ∙ sym (value_there logic v formulas k atom there)
      ∙ sym (lists.valued.atoms k atom (slice_get_within formulas k atom there) there (node_of_atom formulas nodes k atom are at)))
      (value_of_compound logic v formulas nodes are)

  same_truth : (pairs : List (ℕ × List ℕ)) → AreKnown formulas pairs → is_true_at (value logic (listed entries)) (unpacked formulas pairs) ≡ is_true_at (value logic v) (unpacked formulas pairs)
  same_truth [] known = refl
  same_truth (pair ∷ pairs) known =
      let lt = All-head (λ (p : ℕ × List ℕ). p.0 < length formulas) pair pairs known in
      let within : pair.0 < length nodes = omega (arith, lt, are.count) in
      λ i. has pair.1 (sym (same_values pair.0 within) i) || same_truth pairs (All-tail (λ (p : ℕ × List ℕ). p.0 < length formulas) pair pairs known) i

  false_there : is_true_at (value logic (listed entries)) goal ≡ false
  false_there = ap (is_true_at (value logic (listed entries))) (sym numbered.same) ∙ same_truth branch numbered.known ∙ ap (is_true_at (value logic v)) numbered.same ∙ counter.fails

  entry_fits : (entry : Formula × ℕ) → IsEntryBelow (length formulas) formulas (map (value logic v) formulas) entry → Fits logic entry.0 × (entry.1 < logic.size)
  entry_fits entry one = (
    subst (Fits logic) (get_or_from_slice_get formulas one.number entry.0 entry.0 one.formula) (fit one.number entry.0 one.below),
    subst (λ w. w < logic.size) (sym (one.value ∙ value_there logic v formulas one.number entry.0 one.formula)) (HasValues-value logic is v (listed_below old counter.fit) entry.0),
  )

  -- a subformula of a numbered formula has a number
  subformula_number : (f g : Formula) → IsSubformula f g → has_quantifier g ≡ false → (k : ℕ) → slice_get formulas k ≡ Some g → (j : ℕ) × (slice_get formulas j ≡ Some f)
  subformula_number f _ itself none k at = (k, at)
  subformula_number f _ (of_argument op args a among part) none k at =
      let before = numbering.arguments k op args at among.0 a among.1 in
      subformula_number f a part (item_propositional args among.0 a among.1 (sym among.2) (arguments_propositional (Op op args) op args args refl refl none)) before.place (before.is ∙ ap Some among.2)
  subformula_number f _ (of_body q body part) none k at = absurd (quantified (Quant q body) q body refl none)

  numbered_item : (pairs : List (ℕ × List ℕ)) (items : List SignedFormula) → unpacked formulas pairs ≡ items → AreKnown formulas pairs → (i : ℕ) (item : SignedFormula) → i < length items → get_or items i item ≡ item → (k : ℕ) × (slice_get formulas k ≡ Some item.formula)
  numbered_item [] [] same known i item lt at = absurd (omega (arith, lt))
  numbered_item [] (x ∷ items) same known i item lt at = cc
  numbered_item (pair ∷ pairs) [] same known i item lt at = cc
  numbered_item (pair ∷ pairs) (x ∷ items) same known zero item lt at =
      let first : record { formula = formula_at formulas pair.0; sign = pair.1 } ≡ x = cc in
      (pair.0, at-formula_at formulas pair.0 (All-head (λ (p : ℕ × List ℕ). p.0 < length formulas) pair pairs known) ∙ ap (λ (y : SignedFormula). Some y.formula) (first ∙ at))
  numbered_item (pair ∷ pairs) (x ∷ items) same known (suc i) item lt at =
      let rest : unpacked formulas pairs ≡ items = cc in
      numbered_item pairs items rest (All-tail (λ (p : ℕ × List ℕ). p.0 < length formulas) pair pairs known) i item (omega (arith, lt)) at

  pub valuation_against : IsEntries entries → IsValuationAgainst logic goal entries
  valuation_against once = record {
    counterexample = record { fit = All-weaker (IsEntryBelow (length formulas) formulas (map (value logic v) formulas)) (λ entry. Fits logic entry.0 × (entry.1 < logic.size)) entry_fits entries lists.valued.each; fails = false_there };
    once = once;
    atoms = λ f atom. (λ there. All-contains (λ g. Any (λ item. IsSubformula g item.formula) goal) (map (λ entry. entry.0) entries) f each_part there, λ part. is_listed f atom part);
  }
    where
      each_part : All (λ f. Any (λ item. IsSubformula f item.formula) goal) (map (λ entry. entry.0) entries)
      each_part = All-map (λ f. Any (λ item. IsSubformula f item.formula) goal) (λ (entry : Formula × ℕ). entry.0) entries
          (All-weaker (IsEntryBelow (length formulas) formulas (map (value logic v) formulas)) (λ entry. Any (λ item. IsSubformula entry.0 item.formula) goal)
          (λ entry one. subst (λ g. Any (λ item. IsSubformula g item.formula) goal) (get_or_from_slice_get formulas one.number entry.0 entry.0 one.formula) (parts one.number entry.0 one.below)) entries lists.valued.each)

      is_listed : (f : Formula) → is_atom f ≡ true → Any (λ item. IsSubformula f item.formula) goal → Contains (map (λ entry. entry.0) entries) f
      is_listed f atom part =
          let at = numbered_item branch goal numbered.same numbered.known part.0 part.1 part.2 part.3 in
          let plain : has_quantifier part.1.formula ≡ false = subst (λ (item : SignedFormula). has_quantifier item.formula ≡ false) part.3 (propositional part.0 part.1 part.2) in
          let number = subformula_number f part.1.formula part.4 plain at.0 at.1 in
          lists.each number.0 f (slice_get_within formulas number.0 f number.1) number.1 atom
