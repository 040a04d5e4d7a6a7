-- Branches over numbers, and the formulas that are left.
use Rattle.std.proofs.Common.{◌≡◌, ◌≢◌, ℕ, zero, suc, ◌+◌, ◌<◌, ◌⊎◌, inl, inr, ◌&&◌, ◌==◌, Bool, true, false, List, [], ◌∷◌, map, length, get_or, set, slice_get, Some, refl, ap, sym, ◌∙◌, subst, arith, ⊎_elim, get_or-set_same, get_or-set_other, length-set}
use Rattle.std.specs.List.{All}
use Rattle.std.proofs.lemmas.Bool.{and_parts, or_cases, or_left, or_right, eqb-true, eq-eqb, cases_eq, cases_lt, true≢false}
use Rattle.std.proofs.lemmas.List.{get_or_past, length-map, get_or-map}
use Rattle.std.proofs.lemmas.List.Elements.{All-head, All-tail}
use Rattle.std.proofs.lemmas.Option.{slice_get_within, slice_get-get_or, get_or_from_slice_get}
use Rattle.lgc_values.specs.Values.{has}
use Rattle.lgc_syntax.specs.declared.formula.Formula.{Formula, Op}
use Rattle.lgc_syntax.specs.Equality.{same_formula}
use Rattle.lgc_syntax.proofs.EqualityLaws.{same_formula-Decides}
use Rattle.lgc_syntax.proofs.Injective.{same_Op}
use Rattle.lgc_sequents.specs.Signed.{SignedFormula}
use Rattle.lgc_sequents.specs.Steps.{carries}
use Rattle.lgc_meaning.specs.Valuations.{is_atom}
use Rattle.lgc_numbering.specs.declared.node.Node.{Node}
use Rattle.lgc_numbering.specs.declared.node.Node.TheVariants.{Atom, Compound}
use Rattle.lgc_numbering.specs.Numbering.{formula_at, StandsBefore, IsNumbering, AreNodesOf}
use Rattle.lgc_numbering.proofs.NumberingLaws.{formula_at-is, one_number}
use Rattle.lgc_packed.specs.Packed.{marks, unpacked}
use Rattle.lgc_packed.specs.Packing.{AreKnown}
use Rattle.lgc_packed.proofs.SequentLaws.{stands_on-unpacked}
use Rattle.lgc_lemmas.specs.Nodes.{is_compound_node}
use Rattle.lgc_decision.proofs.DecisionLaws.{node_of_atom}
use Rattle.lgc_tableau.specs.ClosedTableaux.{CarriesAll}
use Rattle.lgc_tableau.specs.OrderlyTableaux.{IsUnclosed, IsFirstFull}
use Rattle.lgc_tableau_build.specs.Numbers.{IsFull, IsNoneFull, IsFirstFullNumber, is_left, arguments_of, AreNodesInOrder, IsLastLeft, IsFree}
use Rattle.lgc_tableau_build.specs.Building.{IsLeft, AreLeft, left_count}
use Rattle.lgc_tableau_build.proofs.Settling.{is_atom-Op}

-- ---- what a branch carries

pub carries-number : (formulas : List Formula) (branch : List (ℕ × List ℕ)) (k w : ℕ) → IsNumbering formulas → AreKnown formulas branch → k < length formulas → carries (unpacked formulas branch) (formula_at formulas k) w ≡ marks branch k w
carries-number formulas branch k w numbering known lt = stands_on-unpacked formulas branch k w numbering known lt

-- a formula with a value on a branch has a number
carried_number : (formulas : List Formula) (branch : List (ℕ × List ℕ)) (f : Formula) (w : ℕ) → AreKnown formulas branch → carries (unpacked formulas branch) f w ≡ true → (k : ℕ) × (k < length formulas) × (f ≡ formula_at formulas k)
carried_number formulas branch f w known carried = numbered formulas branch f w known carried
  where
    numbered : (fs : List Formula) (pairs : List (ℕ × List ℕ)) (g : Formula) (v : ℕ) → AreKnown fs pairs → carries (unpacked fs pairs) g v ≡ true → (k : ℕ) × (k < length fs) × (g ≡ formula_at fs k)
    numbered fs [] g v all none = absurd (true≢false (sym none))
    numbered fs (pair ∷ pairs) g v all one = ⊎_elim
        (λ here. (pair.0, All-head (λ (p : ℕ × List ℕ). p.0 < length fs) pair pairs all, (same_formula-Decides g (formula_at fs pair.0)).0 (and_parts (same_formula g (formula_at fs pair.0)) (has pair.1 v) here).0))
        (λ later. numbered fs pairs g v (All-tail (λ (p : ℕ × List ℕ). p.0 < length fs) pair pairs all) later)
        (or_cases (same_formula g (formula_at fs pair.0) && has pair.1 v) (carries (unpacked fs pairs) g v) one)

module _ (n : ℕ) (some : 0 < n) (formulas : List Formula) (numbering : IsNumbering formulas) (branch : List (ℕ × List ℕ)) (known : AreKnown formulas branch) where
  full_number : (k : ℕ) → k < length formulas → CarriesAll n (unpacked formulas branch) (formula_at formulas k) → IsFull n branch k
  full_number k lt full w l = sym (carries-number formulas branch k w numbering known lt) ∙ full w l

  full_formula : (k : ℕ) → k < length formulas → IsFull n branch k → CarriesAll n (unpacked formulas branch) (formula_at formulas k)
  full_formula k lt full w l = carries-number formulas branch k w numbering known lt ∙ full w l

  pub unclosed_branch : IsNoneFull n branch → IsUnclosed n (unpacked formulas branch)
  unclosed_branch none f full =
      let at = carried_number formulas branch f 0 known (full 0 some) in
      none at.0 (full_number at.0 at.1 (subst (CarriesAll n (unpacked formulas branch)) at.2 full))

  pair_at : (pairs : List (ℕ × List ℕ)) (i : ℕ) (item : SignedFormula) → slice_get (unpacked formulas pairs) i ≡ Some item → (pair : ℕ × List ℕ) × (slice_get pairs i ≡ Some pair) × (record { formula = formula_at formulas pair.0; sign = pair.1 } ≡ item)
  pair_at [] i item at = cc
  pair_at (p ∷ pairs) zero item at = let same : record { formula = formula_at formulas p.0; sign = p.1 } ≡ item = cc in (p, refl, same)
  pair_at (p ∷ pairs) (suc i) item at = pair_at pairs i item at

  item_at : (pairs : List (ℕ × List ℕ)) (i : ℕ) (pair : ℕ × List ℕ) → slice_get pairs i ≡ Some pair → slice_get (unpacked formulas pairs) i ≡ Some (record { formula = formula_at formulas pair.0; sign = pair.1 })
  item_at [] i pair at = cc
  item_at (p ∷ pairs) zero pair at = let same : p ≡ pair = cc in ap (λ (q : ℕ × List ℕ). Some (record { formula = formula_at formulas q.0; sign = q.1 })) same
  item_at (p ∷ pairs) (suc i) pair at = item_at pairs i pair at

  number_below : (pairs : List (ℕ × List ℕ)) (i : ℕ) (pair : ℕ × List ℕ) → AreKnown formulas pairs → slice_get pairs i ≡ Some pair → pair.0 < length formulas
  number_below pairs i pair all at = subst (λ (p : ℕ × List ℕ). p.0 < length formulas) (get_or_from_slice_get pairs i pair pair at) (all i pair (slice_get_within pairs i pair at))

  pub first_full_formula : (k : ℕ) (f : Formula) → slice_get formulas k ≡ Some f → IsFirstFullNumber n branch k → IsFirstFull n (unpacked formulas branch) f
  first_full_formula k f at first =
      let lt = slice_get_within formulas k f at in
      let is = formula_at-is formulas k f at in
      record {
        at = first.at;
        item = record { formula = formula_at formulas k; sign = first.sign };
        is = item_at branch first.at (k, first.sign) first.is;
        formula = is;
        signed = first.signed;
        full = subst (CarriesAll n (unpacked formulas branch)) is (full_formula k lt first.full);
        before = λ i earlier before there signed full.
            let pair = pair_at branch i earlier there in
            let Carried : SignedFormula → Type 0 = λ item. CarriesAll n (unpacked formulas branch) item.formula in
            let Signed : SignedFormula → Type 0 = λ item. item.sign ≢ [] in
            first.before i pair.0 before pair.1 (subst Signed (sym pair.2) signed)
            (full_number pair.0.0 (number_below branch i pair.0 known pair.1) (subst Carried (sym pair.2) full));
      }

-- ---- nodes

some_same : (f g : Formula) → Some f ≡ Some g → f ≡ g
some_same f g e = cc

pub not_atom : (formulas : List Formula) (nodes : List Node) → AreNodesOf formulas nodes → (k op : ℕ) (args : List Formula) → slice_get formulas k ≡ Some (Op op args) → (f : Formula) → slice_get nodes k ≡ Some (Atom f) → ⊥
not_atom formulas nodes are k op args at f there =
    let same : f ≡ Op op args = some_same f (Op op args) (sym (are.formula k (Atom f) there) ∙ at) in
    true≢false (sym (node_of_atom formulas nodes k f are there) ∙ ap is_atom same ∙ is_atom-Op op args)

-- the node of a compound
pub compound_node : (formulas : List Formula) (nodes : List Node) → AreNodesOf formulas nodes → (k op : ℕ) (args : List Formula) → slice_get formulas k ≡ Some (Op op args) → (node : Node) → slice_get nodes k ≡ Some node
    → (numbers : List ℕ) × (node ≡ Compound op numbers) × (map (formula_at formulas) numbers ≡ args)
compound_node formulas nodes are k op args at (Atom f) there = absurd (not_atom formulas nodes are k op args at f there)
compound_node formulas nodes are k op args at (Compound o numbers) there =
    let same : Op o (map (formula_at formulas) numbers) ≡ Op op args = some_same (Op o (map (formula_at formulas) numbers)) (Op op args) (sym (are.formula k (Compound o numbers) there) ∙ at) in
    let parts = same_Op same in
    (numbers, ap (λ p. Compound p numbers) parts.0, parts.1)

pub node_at : (formulas : List Formula) (nodes : List Node) → AreNodesOf formulas nodes → (k : ℕ) (f : Formula) → slice_get formulas k ≡ Some f → (node : Node) × (slice_get nodes k ≡ Some node)
node_at formulas nodes are k f at =
    let lt = slice_get_within formulas k f at in
    let within : k < length nodes = omega (arith, lt, are.count) in
    let d = Compound 0 [] in
    (get_or nodes k d, slice_get-get_or nodes k d within)

has-at : (xs : List ℕ) (i x : ℕ) → i < length xs → get_or xs i x ≡ x → has xs x ≡ true
has-at [] i x lt at = absurd (omega (arith, lt))
has-at (y ∷ xs) zero x lt at = or_left (y == x) (has xs x) (eq-eqb y x at)
has-at (y ∷ xs) (suc i) x lt at = or_right (y == x) (has xs x) (has-at xs i x (omega (arith, lt)) at)

has_place : (xs : List ℕ) (x : ℕ) → has xs x ≡ true → (i : ℕ) × (i < length xs) × ((d : ℕ) → get_or xs i d ≡ x)
has_place [] x member = cc
has_place (y ∷ xs) x member = ⊎_elim
    (λ here. (0, omega arith, λ d. eqb-true y x here))
    (λ later. let found = has_place xs x later in (suc found.0, omega (arith, found.1), found.2))
    (or_cases (y == x) (has xs x) member)

pub nodes_in_order : (formulas : List Formula) (nodes : List Node) → AreNodesOf formulas nodes → AreNodesInOrder nodes
nodes_in_order formulas nodes are k a (Atom f) there member = cc
nodes_in_order formulas nodes are k a (Compound op args) there member =
    let found = has_place args a member in
    subst (λ j. j < k) (found.2 0) (are.over k (Compound op args) there found.0 0 found.1)

-- ---- which formulas are left

pub last_is_free : (nodes : List Node) (left : List Bool) (k : ℕ) → AreNodesInOrder nodes → IsLastLeft left k → IsFree nodes left k
last_is_free nodes left k order last = record { is = last.is; free = λ j node is there. none j node is there (has (arguments_of node) k) refl }
  where
    none : (j : ℕ) (node : Node) → is_left left j ≡ true → slice_get nodes j ≡ Some node → (b : Bool) → has (arguments_of node) k ≡ b → b ≡ false
    none j node is there true member = absurd (true≢false (sym is ∙ last.last j (order j k node there member)))
    none j node is there false member = refl

left_within : (left : List Bool) (k : ℕ) → is_left left k ≡ true → k < length left
left_within left k is = ⊎_elim (λ lt. lt) (λ past. absurd (true≢false (sym is ∙ get_or_past left k false past))) (cases_lt k (length left))

module _ (formulas : List Formula) (numbering : IsNumbering formulas) (nodes : List Node) (are : AreNodesOf formulas nodes) (left : List Bool) (are_left : AreLeft formulas left) (k : ℕ) (free : IsFree nodes left k) where
  abbrev rest : List Bool
  rest = set left k false

  within : k < length left
  within = left_within left k free.is

  kept : (j : ℕ) → j ≢ k → is_left left j ≡ true → is_left rest j ≡ true
  kept j other is = get_or-set_other left k j false false other ∙ is

  -- what is left is another one
  pub was : (j : ℕ) → is_left rest j ≡ true → (j ≢ k) × (is_left left j ≡ true)
  was j is = ⊎_elim
      (λ same. absurd (true≢false (sym is ∙ ap (λ i. get_or rest i false) same ∙ get_or-set_same left k false false within)))
      (λ other. (other, sym (get_or-set_other left k j false false other) ∙ is))
      (cases_eq j k)

  -- what is left but for one formula
  pub fewer : (g : Formula) → slice_get formulas k ≡ Some g → (f : Formula) → IsLeft formulas left f → IsLeft formulas rest f ⊎ (f ≡ g)
  fewer g at f (inl atom) = inl (inl atom)
  fewer g at f (inr l) = ⊎_elim
      (λ same. let e : Some f ≡ Some g = sym l.2 ∙ ap (slice_get formulas) same ∙ at in let one : f ≡ g = cc in inr one)
      (λ other. inl (inr (l.0, kept l.0 other l.1, l.2)))
      (cases_eq l.0 k)

  -- the arguments of the formula are left, as they have smaller numbers
  own : (op : ℕ) (args : List Formula) → slice_get formulas k ≡ Some (Op op args) → (i : ℕ) (a : Formula) → StandsBefore formulas k a → IsLeft formulas left a → IsLeft formulas rest a
  own op args at i a before (inl atom) = inl atom
  own op args at i a before (inr l) =
      let place_in = slice_get_within formulas before.place a before.is in
      let number_in = slice_get_within formulas l.0 a l.2 in
      let same = one_number formulas numbering.distinct l.0 before.place number_in place_in (formula_at-is formulas l.0 a l.2 ∙ sym (formula_at-is formulas before.place a before.is)) in
      let earlier = before.before in
      inr (l.0, kept l.0 (λ e. absurd (omega (arith, e, same, earlier))) l.1, l.2)

  pub own_arguments : (op : ℕ) (args : List Formula) → slice_get formulas k ≡ Some (Op op args) → All (IsLeft formulas rest) args
  own_arguments op args at i d lt = own op args at i (get_or args i d) (numbering.arguments k op args at i d lt) (are_left.arguments k op args free.is at i d lt)

  -- so are those of the others, since it is no argument of theirs
  other_argument : (j op : ℕ) (args : List Formula) → is_left left j ≡ true → slice_get formulas j ≡ Some (Op op args) → (i : ℕ) (d : Formula) → i < length args → IsLeft formulas left (get_or args i d) → IsLeft formulas rest (get_or args i d)
  other_argument j op args is at i d lt (inl atom) = inl atom
  other_argument j op args is at i d lt (inr l) = ⊎_elim
      (λ same.
      let there = node_at formulas nodes are j (Op op args) at in
      let compound = compound_node formulas nodes are j op args at there.0 there.1 in
      let numbers : List ℕ = compound.0 in
      let long : length numbers ≡ length args = sym (length-map numbers (formula_at formulas)) ∙ ap length compound.2 in
      let lt_numbers : i < length numbers = omega (arith, lt, long) in
      let number = get_or numbers i 0 in
      let read : formula_at formulas number ≡ get_or args i d = sym (get_or-map (formula_at formulas) numbers i 0 d lt_numbers) ∙ ap (λ fs. get_or fs i d) compound.2 in
      let node_there : slice_get nodes j ≡ Some (Compound op numbers) = there.1 ∙ ap Some compound.1 in
      let smaller : number < j = are.over j (Compound op numbers) node_there i 0 lt_numbers in
      let j_in = slice_get_within formulas j (Op op args) at in
      let k_in = slice_get_within formulas l.0 (get_or args i d) l.2 in
      let one : number ≡ k = one_number formulas numbering.distinct number l.0 (omega (arith, smaller, j_in)) k_in (read ∙ sym (formula_at-is formulas l.0 (get_or args i d) l.2)) ∙ same in
      let member : has numbers k ≡ true = has-at numbers i k lt_numbers (get_or_any numbers i k 0 lt_numbers ∙ one) in
      absurd (true≢false (sym member ∙ free.free j (Compound op numbers) is node_there)))
      (λ other. inr (l.0, kept l.0 other l.1, l.2))
      (cases_eq l.0 k)
    where
      get_or_any : (xs : List ℕ) (i d e : ℕ) → i < length xs → get_or xs i d ≡ get_or xs i e
      get_or_any [] i d e lt = absurd (omega (arith, lt))
      get_or_any (x ∷ xs) zero d e lt = refl
      get_or_any (x ∷ xs) (suc i) d e lt = get_or_any xs i d e (omega (arith, lt))

  pub rest_left : AreLeft formulas rest
  rest_left = record {
    count = length-set left k false ∙ are_left.count;
    compounds = λ j is. are_left.compounds j (was j is).1;
    arguments = λ j op args is at i d lt. other_argument j op args (was j is).1 at i d lt (are_left.arguments j op args (was j is).1 at i d lt);
  }

-- ---- how many are left

pub left_count-set : (left : List Bool) (k : ℕ) → is_left left k ≡ true → left_count (set left k false) + 1 ≡ left_count left
left_count-set [] k is = absurd (true≢false (sym is))
left_count-set (true ∷ left) zero is = refl
left_count-set (false ∷ left) zero is = absurd (true≢false (sym is))
left_count-set (true ∷ left) (suc k) is = let more = left_count-set left k is in omega (arith, more)
left_count-set (false ∷ left) (suc k) is = left_count-set left k is

-- ---- at the start

module _ (formulas : List Formula) (numbering : IsNumbering formulas) (nodes : List Node) (are : AreNodesOf formulas nodes) where
  abbrev pub start : List Bool
  start = map (λ node. is_compound_node (Some node)) nodes

  start_at : (ns : List Node) (k : ℕ) (node : Node) → slice_get ns k ≡ Some node → is_left (map (λ m. is_compound_node (Some m)) ns) k ≡ is_compound_node (Some node)
  start_at [] k node there = cc
  start_at (m ∷ ns) zero node there = let same : m ≡ node = cc in ap (λ x. is_compound_node (Some x)) same
  start_at (m ∷ ns) (suc k) node there = start_at ns k node there

  compound_at : (ns : List Node) (k : ℕ) → is_left (map (λ m. is_compound_node (Some m)) ns) k ≡ true → (op : ℕ) × (args : List ℕ) × (slice_get ns k ≡ Some (Compound op args))
  compound_at [] k is = absurd (true≢false (sym is))
  compound_at (Atom f ∷ ns) zero is = absurd (true≢false (sym is))
  compound_at (Compound op args ∷ ns) zero is = (op, args, refl)
  compound_at (m ∷ ns) (suc k) is = compound_at ns k is

  pub numbered_left : (k : ℕ) (f : Formula) → slice_get formulas k ≡ Some f → IsLeft formulas start f
  numbered_left k f at = let node = node_at formulas nodes are k f at in by node.0 node.1
    where
      by : (node : Node) → slice_get nodes k ≡ Some node → IsLeft formulas start f
      by (Atom atom) there =
          let e : Some atom ≡ Some f = sym (are.formula k (Atom atom) there) ∙ at in
          let same : atom ≡ f = cc in
          inl (ap is_atom (sym same) ∙ node_of_atom formulas nodes k atom are there)
      by (Compound op args) there = inr (k, start_at nodes k (Compound op args) there, at)

  pub start_left : AreLeft formulas start
  start_left = record {
    count = length-map nodes (λ node. is_compound_node (Some node)) ∙ are.count;
    compounds = λ k is. let node = compound_at nodes k is in (node.0, map (formula_at formulas) node.1, are.formula k (Compound node.0 node.1) node.2);
    arguments = λ k op args is at i d lt. let before = numbering.arguments k op args at i d lt in numbered_left before.place (get_or args i d) before.is;
  }
