-- What is decided of a goal: the numbered formulas are the goal's, a lemma makes the goal true, and refuting values are those under a
-- valuation.
use Rattle.std.proofs.Common.{◌≡◌, ◌≢◌, ℕ, ◌+◌, ◌<◌, ◌≤◌, ◌||◌, ◌⊎◌, inl, inr, Bool, true, false, cond, List, [], ◌∷◌, ◌++◌, length, map, slice_get, slice_index, Some, refl, sym, ◌∙◌, ap, subst, arith}
use Rattle.std.specs.Prelude.{All}
use Rattle.std.specs.List.{Any}
use Rattle.std.proofs.lemmas.Bool.{cases_order, both_ways}
use Rattle.std.proofs.lemmas.List.Elements.{All-nil, All-push, All-weaker, All-head, All-tail}
use Rattle.std.proofs.lemmas.Option.{slice_get_within, same_Some}
use Rattle.lgc_values.specs.Values.{has}
use Rattle.lgc_values.specs.Logic.{Logic, IsLogic}
use Rattle.lgc_clauses.specs.Rules.{OperatorRule}
use Rattle.lgc_syntax.specs.declared.formula.Formula.{Formula, Op}
use Rattle.lgc_syntax.specs.Equality.{same_formula}
use Rattle.lgc_syntax.specs.Fits.{Fits}
use Rattle.lgc_syntax.specs.Sizes.{has_quantifier}
use Rattle.lgc_syntax.specs.Subformulas.{IsSubformula}
use Rattle.lgc_syntax.specs.Values.{listed, value, IsValuation}
use Rattle.lgc_syntax.proofs.EqualityLaws.{same_formula-Decides}
use Rattle.lgc_syntax.proofs.Folds.{fold-Op}
use Rattle.lgc_syntax.proofs.SubformulaLaws.{fits_subformula}
use Rattle.lgc_meaning.specs.Valuations.{is_atom, is_atom_layer}
use Rattle.lgc_meaning.proofs.Places.{is_atom-Atom}
use Rattle.lgc_sequents.specs.Signed.{SignedFormula}
use Rattle.lgc_sequents.specs.Sequents.{IsSequent, is_true_at}
use Rattle.lgc_goals.proofs.TruthValues.{HasValues-value}
use Rattle.lgc_numbering.specs.declared.node.Node.{Node}
use Rattle.lgc_numbering.specs.declared.node.Node.TheVariants.{Atom, Compound}
use Rattle.lgc_numbering.specs.Numbering.{formula_at, formula_of, IsNumbering, AreNodesOf}
use Rattle.lgc_numbering.specs.Growth.{IsGrownBy}
use Rattle.lgc_numbering.proofs.FitLaws.{fits_at}
use Rattle.lgc_numbering.proofs.NumberingLaws.{formula_at-is, formula_at-node, one_number}
use Rattle.lgc_numbering.proofs.ValueLaws.{value_of_compound, values_are}
use Rattle.lgc_calculus.specs.RuleBook.{IsRightBook}
use Rattle.lgc_packed.specs.Packed.{IsPacked, is_true_of, unpacked}
use Rattle.lgc_packed.specs.Packing.{AreKnown, IsPackOf, IsTrueAs}
use Rattle.lgc_packed.proofs.PackLaws.{differs}
use Rattle.lgc_packed.proofs.SequentLaws.{included_items, pack_of-unpacked}
use Rattle.lgc_packed.proofs.Truth.{is_true_of-included}
use Rattle.lgc_lemmas.specs.Plain.{PlainLemma}
use Rattle.lgc_lemmas.specs.Nodes.{AreNodes, AreValues, HasNumbersBelow}
use Rattle.lgc_lemmas.specs.Steps.{AreSteps}
use Rattle.lgc_lemmas.specs.Answers.{IsProvedBy, IsRefutedBy}
use Rattle.lgc_lemmas.proofs.Truth.{all_at, exact_rules, lemmas_true}
use Rattle.lgc_decision.specs.Atoms.{IsEntryBelow, HasAtomsBelow}
use Rattle.lgc_sequents.specs.Everywhere.{IsTrueEverywhere, IsCounterexample}
use Rattle.lgc_decision.specs.Decided.{AreSubformulasOf, IsProvedFrom}
use Rattle.lgc_decision.proofs.Formed.{all_formed}

-- ---- values of atoms

-- one more entry is that of its own formula alone
listed-other : (entries : List (Formula × ℕ)) (atom f : Formula) (v : ℕ) → same_formula f atom ≡ false → listed (entries ++ (atom, v) ∷ []) f ≡ listed entries f
listed-other [] atom f v other = ap (λ b. cond b v 0) other
listed-other (entry ∷ entries) atom f v other = ap (cond (same_formula f entry.0) entry.1) (listed-other entries atom f v other)

listed-last : (entries : List (Formula × ℕ)) (atom : Formula) (v : ℕ) → All (λ entry. entry.0 ≢ atom) entries → listed (entries ++ (atom, v) ∷ []) atom ≡ v
listed-last [] atom v others = ap (λ b. cond b v 0) ((same_formula-Decides atom atom).1 refl)
listed-last (entry ∷ entries) atom v others =
    ap (λ b. cond b entry.1 (listed (entries ++ (atom, v) ∷ []) atom)) (differs atom entry.0 (λ same. All-head (λ (e : Formula × ℕ). e.0 ≢ atom) entry entries others (sym same)))
    ∙ listed-last entries atom v (All-tail (λ (e : Formula × ℕ). e.0 ≢ atom) entry entries others)

is_atom-Op : (op : ℕ) (args : List Formula) → is_atom (Op op args) ≡ false
unfolding is_atom
is_atom-Op op args = fold-Op Bool is_atom_layer op args

module _ (formulas : List Formula) (values : List ℕ) where
  pub no_atoms : HasAtomsBelow 0 formulas values []
  no_atoms = record { each = All-nil (IsEntryBelow 0 formulas values); atoms = λ k f lt at is. absurd (omega (arith, lt)) }

  entries_below : (m n : ℕ) (entries : List (Formula × ℕ)) → m ≤ n → All (IsEntryBelow m formulas values) entries → All (IsEntryBelow n formulas values) entries
  entries_below m n entries le each =
      All-weaker (IsEntryBelow m formulas values) (IsEntryBelow n formulas values) (λ entry is. let below = is.below in record { number = is.number; below = omega (arith, below, le); formula = is.formula; value = is.value }) entries each

  -- all atoms, behind the last number
  pub all_atoms : (n : ℕ) (entries : List (Formula × ℕ)) → length formulas ≤ n → HasAtomsBelow n formulas values entries → HasAtomsBelow (length formulas) formulas values entries
  all_atoms n entries le have = record {
    each = All-weaker (IsEntryBelow n formulas values) (IsEntryBelow (length formulas) formulas values) (λ entry is. record { number = is.number; below = slice_get_within formulas is.number entry.0 is.formula; formula = is.formula; value = is.value }) entries have.each;
    atoms = λ k f lt at is. have.atoms k f (omega (arith, lt, le)) at is;
  }

  module _ (numbering : IsNumbering formulas) (k : ℕ) (f : Formula) (at : slice_get formulas k ≡ Some f) (entries : List (Formula × ℕ)) (have : HasAtomsBelow k formulas values entries) where
    same_number : (j : ℕ) (g : Formula) → slice_get formulas j ≡ Some g → g ≡ f → j ≡ k
    same_number j g there same = one_number formulas numbering.distinct j k (slice_get_within formulas j g there) (slice_get_within formulas k f at) (formula_at-is formulas j g there ∙ same ∙ sym (formula_at-is formulas k f at))

    -- the next formula isn't listed
    pub unlisted : All (λ entry. entry.0 ≢ f) entries
    unlisted = All-weaker (IsEntryBelow k formulas values) (λ entry. entry.0 ≢ f) (λ entry is same. let below = is.below in let e = same_number is.number entry.0 is.formula same in omega (arith, below, e)) entries have.each

    -- an atom is listed next
    pub one_atom : (v : ℕ) → v ≡ slice_index values k → HasAtomsBelow (k + 1) formulas values (entries ++ (f, v) ∷ [])
    one_atom v is = record {
      each = All-push (IsEntryBelow (k + 1) formulas values) entries (f, v) (entries_below k (k + 1) entries (omega arith) have.each) (record { number = k; below = omega arith; formula = at; value = is });
      atoms = λ j g lt there atom. by j g lt there atom (cases_order j k);
    } where
      by : (j : ℕ) (g : Formula) → j < k + 1 → slice_get formulas j ≡ Some g → is_atom g ≡ true → (j ≡ k) ⊎ ((j < k) ⊎ (k < j)) → listed (entries ++ (f, v) ∷ []) g ≡ slice_index values j
      by j g lt there atom (inl e) =
          let same : g ≡ f = same_Some g f (sym there ∙ ap (slice_get formulas) e ∙ at) in
          ap (listed (entries ++ (f, v) ∷ [])) same ∙ listed-last entries f v unlisted ∙ is ∙ ap (slice_index values) (sym e)
      by j g lt there atom (inr (inl less)) =
          listed-other entries f g v (differs g f (λ same. let e = same_number j g there same in omega (arith, less, e))) ∙ have.atoms j g less there atom
      by j g lt there atom (inr (inr more)) = absurd (omega (arith, lt, more))

    -- a compound isn't
    pub no_atom : is_atom f ≡ false → HasAtomsBelow (k + 1) formulas values entries
    no_atom other = record {
      each = entries_below k (k + 1) entries (omega arith) have.each;
      atoms = λ j g lt there atom. by j g lt there atom (cases_order j k);
    } where
      by : (j : ℕ) (g : Formula) → j < k + 1 → slice_get formulas j ≡ Some g → is_atom g ≡ true → (j ≡ k) ⊎ ((j < k) ⊎ (k < j)) → listed entries g ≡ slice_index values j
      by j g lt there atom (inl e) =
          let same : g ≡ f = same_Some g f (sym there ∙ ap (slice_get formulas) e ∙ at) in
          absurd (both_ways (is_atom g) (ap is_atom same ∙ other) atom)
      by j g lt there atom (inr (inl less)) = have.atoms j g less there atom
      by j g lt there atom (inr (inr more)) = absurd (omega (arith, lt, more))

-- a node tells whether its formula is an atom
pub node_of_atom : (formulas : List Formula) (nodes : List Node) (k : ℕ) (atom : Formula) → AreNodesOf formulas nodes → slice_get nodes k ≡ Some (Atom atom) → is_atom atom ≡ true
node_of_atom formulas nodes k atom are at = let is = are.over k (Atom atom) at in ap is_atom is.2 ∙ is_atom-Atom is.0 is.1

pub node_of_compound : (formulas : List Formula) (op : ℕ) (arguments : List ℕ) → is_atom (formula_of formulas (Compound op arguments)) ≡ false
node_of_compound formulas op arguments = is_atom-Op op (map (formula_at formulas) arguments)

-- ---- the numbered formulas of a goal
module _ (logic : Logic) (goal : List SignedFormula) (fits : All (λ item. Fits logic item.formula) goal) (propositional : All (λ item. has_quantifier item.formula ≡ false) goal)
    (formulas : List Formula) (grown : IsGrownBy (λ g. Any (λ item. IsSubformula g item.formula) goal) [] formulas) where
  pub parts_of_goal : AreSubformulasOf goal formulas
  parts_of_goal = subst (AreSubformulasOf goal) (sym grown.is) grown.each

  pub all_fit : All (Fits logic) formulas
  all_fit = All-weaker (λ f. Any (λ item. IsSubformula f item.formula) goal) (Fits logic)
      (λ f some. fits_subformula logic f some.1.formula some.4
      (subst (λ (item : SignedFormula). has_quantifier item.formula ≡ false) some.3 (propositional some.0 some.1 some.2))
      (subst (λ (item : SignedFormula). Fits logic item.formula) some.3 (fits some.0 some.1 some.2)))
      formulas parts_of_goal

  pub nodes_fit : (nodes : List Node) → AreNodesOf formulas nodes → AreNodes logic nodes
  nodes_fit nodes are k op arguments at =
      let node = Compound op arguments in
      let here = all_at (Fits logic) formulas k (formula_of formulas node) all_fit (are.formula k node at) in
      let is = fits_at logic formulas nodes k op arguments are at (subst (Fits logic) (sym (formula_at-node formulas nodes k node are at)) here) in
      record { known = is.operator; arity = is.arity; before = are.over k node at }

-- the numbers of a packed sequent are those of nodes
pub numbers_of_nodes : (formulas : List Formula) (nodes : List Node) (pairs : List (ℕ × List ℕ)) → AreNodesOf formulas nodes → AreKnown formulas pairs → HasNumbersBelow (length nodes) pairs
numbers_of_nodes formulas nodes pairs are known = subst (λ count. All (λ (pair : ℕ × List ℕ). pair.0 < count) pairs) (sym are.count) known

is_true_of-alike : (f g : ℕ → ℕ) (n : ℕ) (pairs : List (ℕ × List ℕ)) → ((k : ℕ) → k < n → f k ≡ g k) → All (λ pair. pair.0 < n) pairs → is_true_of f pairs ≡ is_true_of g pairs
is_true_of-alike f g n [] same below = refl
is_true_of-alike f g n (pair ∷ pairs) same below =
    λ i. has pair.1 (same pair.0 (All-head (λ p. p.0 < n) pair pairs below) i) || is_true_of-alike f g n pairs same (All-tail (λ p. p.0 < n) pair pairs below) i

-- ---- what is decided
module _ (logic : Logic) (is_logic : IsLogic logic) (goal : List SignedFormula) (formulas : List Formula) (nodes : List Node) (are : AreNodesOf formulas nodes) (numbering : IsNumbering formulas) (parts : AreSubformulasOf goal formulas) (fit : AreNodes logic nodes)
    (packed : List (ℕ × List ℕ)) (pack : IsPackOf formulas goal packed) (truth : IsTrueAs formulas goal packed) where
  module _ (rules : List OperatorRule) (right : IsRightBook logic rules) (lemmas : List PlainLemma) (steps : AreSteps logic nodes rules [] lemmas) (place : ℕ) (proved : IsProvedBy logic.size lemmas packed place) where
    -- the values under a valuation go by the tables
    values_under : (v : Formula → ℕ) → IsValuation logic v → AreValues logic nodes (λ k. value logic v (formula_at formulas k))
    values_under v valuation = record {
      below = λ k. HasValues-value logic is_logic v valuation (formula_at formulas k);
      compounds = value_of_compound logic v formulas nodes are;
    }

    pub true_everywhere : IsTrueEverywhere logic goal
    true_everywhere v valuation =
        let val : ℕ → ℕ = λ k. value logic v (formula_at formulas k) in
        let values = values_under v valuation in
        let all = lemmas_true logic nodes val values fit rules (exact_rules logic rules is_logic right) [] lemmas (All-nil (λ (lemma : PlainLemma). is_true_of val lemma.sequent ≡ true)) steps in
        truth (value logic v) ∙ is_true_of-included val logic.size values.below proved.lemma.sequent packed proved.included (all_at (λ (lemma : PlainLemma). is_true_of val lemma.sequent ≡ true) lemmas place proved.lemma all proved.is)

    pub proved_from : IsSequent logic.size goal → IsProvedFrom logic rules goal formulas lemmas place
    proved_from sequent =
        let formed = all_at (λ (l : PlainLemma). IsPacked logic.size l.sequent × HasNumbersBelow (length nodes) l.sequent) lemmas place proved.lemma (all_formed logic nodes rules [] lemmas (All-nil (λ (l : PlainLemma). IsPacked logic.size l.sequent × HasNumbersBelow (length nodes) l.sequent)) steps) proved.is in
        let known : AreKnown formulas proved.lemma.sequent = subst (λ count. All (λ (pair : ℕ × List ℕ). pair.0 < count) proved.lemma.sequent) are.count formed.1 in
        record {
          lemmas_are = record { nodes = nodes; numbering = numbering; are = are; fit = fit; steps = steps };
          parts = parts;
          lemma = proved.lemma;
          is = proved.is;
          included = included_items logic.size formulas numbering (unpacked formulas proved.lemma.sequent) goal proved.lemma.sequent packed (pack_of-unpacked formulas proved.lemma.sequent known) pack formed.0 sequent proved.included;
        }

  -- the values of the list are those under the valuation of its atoms
  pub counterexample : All (Fits logic) formulas → (values : List ℕ) → IsRefutedBy logic nodes packed values → (entries : List (Formula × ℕ)) → HasAtomsBelow (length formulas) formulas values entries → IsCounterexample logic goal entries
  counterexample all values refuted entries have = record {
    fit = All-weaker (IsEntryBelow (length formulas) formulas values) (λ entry. Fits logic entry.0 × (entry.1 < logic.size))
        (λ entry is. (all_at (Fits logic) formulas is.number entry.0 all is.formula, subst (λ w. w < logic.size) (sym is.value) (refuted.values_are.below is.number))) entries have.each;
    fails = truth (value logic (listed entries)) ∙ is_true_of-alike (λ k. value logic (listed entries) (formula_at formulas k)) (slice_index values) (length nodes) packed (λ k lt. sym (same k lt)) (numbers_of_nodes formulas nodes packed are pack.known) ∙ refuted.fails;
  } where
    atoms : (k : ℕ) (atom : Formula) → slice_get nodes k ≡ Some (Atom atom) → slice_index values k ≡ listed entries atom
    atoms k atom at =
        let here = are.formula k (Atom atom) at in
        sym (have.atoms k atom (slice_get_within formulas k atom here) here (node_of_atom formulas nodes k atom are at))

    same : (k : ℕ) → k < length nodes → slice_index values k ≡ value logic (listed entries) (formula_at formulas k)
    same = values_are logic (listed entries) formulas nodes are (slice_index values) atoms refuted.values_are.compounds
