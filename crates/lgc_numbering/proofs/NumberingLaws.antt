-- Numbered formulas and their nodes, with one more.
use Rattle.std.proofs.Common.{◌⊎◌, inl, inr, ℕ, ◌≡◌, ◌≢◌, ◌+◌, ◌<◌, ◌≤◌, false, List, [], ◌∷◌, ◌++◌, Some, unwrap_or, length, map, get_or, slice_get, refl, sym, ap, subst, ◌∙◌, arith}
use Rattle.std.specs.List.{All, AllPairs}
use Rattle.std.proofs.lemmas.Bool.{cases_order}
use Rattle.std.proofs.lemmas.List.{length-append}
use Rattle.std.proofs.lemmas.List.Elements.{All-push, All-map, All-weaker}
use Rattle.std.proofs.lemmas.List.Quantifiers.{all_pairs_push}
use Rattle.std.proofs.lemmas.List.Folds.{list_any_none}
use Rattle.std.proofs.lemmas.List.Sums.{fold-append}
use Rattle.std.proofs.lemmas.Option.{slice_get_within, slice_get-get_or, slice_get_read, unwrap_or-slice_get}
use Rattle.lgc_syntax.specs.declared.formula.Formula.{Formula, Atom, Op, out-Formula}
use Rattle.lgc_syntax.specs.declared.formula.Formula.TheVariants.{outs-Atom, outs-Op}
use Rattle.lgc_syntax.specs.Sizes.{has_quantifier}
use Rattle.lgc_syntax.proofs.SizeLaws.{has_quantifier-Atom, has_quantifier-Op}
use Rattle.lgc_syntax.proofs.Injective.{same_Op}
use Rattle.lgc_numbering.specs.declared.node.Node.{Node}
use Rattle.lgc_numbering.specs.declared.node.Node.TheVariants as node
use Rattle.lgc_numbering.specs.Numbering.{formula_at, formula_of, formulas_of, StandsBefore, IsNumbering, IsNode, AreNodesOf}
use Rattle.lgc_numbering.proofs.Lists.{slice_get-left, slice_get-last, slice_get-cases, map-alike, map-told}

-- ---- formulas by their numbers

pub formula_at-is : (fs : List Formula) (k : ℕ) (f : Formula) → slice_get fs k ≡ Some f → formula_at fs k ≡ f
formula_at-is fs k f at = ap (λ found. unwrap_or found (Atom [] [])) at

pub at-formula_at : (fs : List Formula) (k : ℕ) → k < length fs → slice_get fs k ≡ Some (formula_at fs k)
at-formula_at fs k lt = slice_get-get_or fs k (Atom [] []) lt ∙ ap (λ f. Some f) (sym (unwrap_or-slice_get fs k (Atom [] [])))

pub formula_at-left : (fs gs : List Formula) (k : ℕ) → k < length fs → formula_at (fs ++ gs) k ≡ formula_at fs k
formula_at-left fs gs k lt = formula_at-is (fs ++ gs) k (formula_at fs k) (slice_get-left fs gs k (formula_at fs k) (at-formula_at fs k lt))

-- a node over the first formulas has the same formula where more stand behind them
pub formula_of-left : (fs gs : List Formula) (a : Node) → IsNode (length fs) a → formula_of (fs ++ gs) a ≡ formula_of fs a
formula_of-left fs gs (node.Atom atom) is = refl
formula_of-left fs gs (node.Compound op args) is = ap (Op op) (map-alike (formula_at (fs ++ gs)) (formula_at fs) args (λ i d lt. formula_at-left fs gs (get_or args i d) (is i d lt)))

pub IsNode-more : (m n : ℕ) (a : Node) → m ≤ n → IsNode m a → IsNode n a
IsNode-more m n (node.Atom atom) le is = is
IsNode-more m n (node.Compound op args) le is = λ i d lt. let below = is i d lt in omega (arith, below, le)

-- ---- one formula has one node

atom_or_compound : (p : List ℕ) (ts : List _) (op : ℕ) (args : List Formula) → Atom p ts ≡ Op op args → ⊥
atom_or_compound p ts op args same = let layers = sym (outs-Atom p ts) ∙ ap out-Formula same ∙ outs-Op op args in cc

pub one_number : (fs : List Formula) → AllPairs (λ a b. a ≢ b) fs → (j k : ℕ) → j < length fs → k < length fs → formula_at fs j ≡ formula_at fs k → j ≡ k
one_number fs distinct j k j_in k_in same = over (cases_order j k) where
  plain : (i : ℕ) → formula_at fs i ≡ get_or fs i (Atom [] [])
  plain i = unwrap_or-slice_get fs i (Atom [] [])

  over : (j ≡ k) ⊎ ((j < k) ⊎ (k < j)) → j ≡ k
  over (inl is) = is
  over (inr (inl lt)) = absurd (distinct j k (Atom [] []) lt k_in (sym (plain j) ∙ same ∙ plain k))
  over (inr (inr gt)) = absurd (distinct k j (Atom [] []) gt j_in (sym (plain k) ∙ sym same ∙ plain j))

pub same_node : (fs : List Formula) → AllPairs (λ a b. a ≢ b) fs → (a b : Node) → IsNode (length fs) a → IsNode (length fs) b → formula_of fs a ≡ formula_of fs b → a ≡ b
same_node fs distinct (node.Atom f) (node.Atom g) is_a is_b same = ap node.Atom same
same_node fs distinct (node.Atom f) (node.Compound op args) is_a is_b same = absurd (atom_or_compound is_a.0 is_a.1 op (map (formula_at fs) args) (sym is_a.2 ∙ same))
same_node fs distinct (node.Compound op args) (node.Atom g) is_a is_b same = absurd (atom_or_compound is_b.0 is_b.1 op (map (formula_at fs) args) (sym is_b.2 ∙ sym same))
same_node fs distinct (node.Compound op args) (node.Compound other numbers) is_a is_b same =
    let parts = same_Op same in
    let numbers_same = map-told (λ k. k < length fs) (formula_at fs) (λ j k j_in k_in is. one_number fs distinct j k j_in k_in is) args numbers is_a is_b parts.1 in
    λ i. node.Compound (parts.0 i) (numbers_same i)

-- ---- one more

pub formulas_of-push : (nodes : List Node) (a : Node) → formulas_of (nodes ++ a ∷ []) ≡ formulas_of nodes ++ formula_of (formulas_of nodes) a ∷ []
formulas_of-push nodes a = fold-append (λ before node. before ++ formula_of before node ∷ []) [] nodes (a ∷ [])

pub nodes_more : (fs : List Formula) (nodes : List Node) (a : Node) → AreNodesOf fs nodes → IsNode (length fs) a → AreNodesOf (fs ++ formula_of fs a ∷ []) (nodes ++ a ∷ [])
nodes_more fs nodes a are is = record {
  count = length-append nodes (a ∷ []) ∙ ap (λ n. n + 1) are.count ∙ sym (length-append fs (formula_of fs a ∷ []));
  over = λ k b at. over_more k b (slice_get-cases nodes a b k at);
  formula = λ k b at. formula_more k b (slice_get-cases nodes a b k at);
} where
  over_more : (k : ℕ) (b : Node) → (slice_get nodes k ≡ Some b) ⊎ ((k ≡ length nodes) × (a ≡ b)) → IsNode k b
  over_more k b (inl at) = are.over k b at
  over_more k b (inr last) = subst (IsNode k) last.1 (subst (λ n. IsNode n a) (sym are.count ∙ sym last.0) is)

  formula_more : (k : ℕ) (b : Node) → (slice_get nodes k ≡ Some b) ⊎ ((k ≡ length nodes) × (a ≡ b)) → slice_get (fs ++ formula_of fs a ∷ []) k ≡ Some (formula_of (fs ++ formula_of fs a ∷ []) b)
  formula_more k b (inl at) =
      let within = slice_get_within nodes k b at in
      slice_get-left fs (formula_of fs a ∷ []) k (formula_of fs b) (are.formula k b at)
      ∙ ap (λ f. Some f) (sym (formula_of-left fs (formula_of fs a ∷ []) b (IsNode-more k (length fs) b (omega (arith, within, are.count)) (are.over k b at))))
  formula_more k b (inr last) =
      ap (slice_get (fs ++ formula_of fs a ∷ [])) (last.0 ∙ are.count)
      ∙ slice_get-last fs (formula_of fs a)
      ∙ ap (λ f. Some f) (sym (formula_of-left fs (formula_of fs a ∷ []) a is) ∙ ap (formula_of (fs ++ formula_of fs a ∷ [])) last.1)

propositional_at : (fs : List Formula) (k : ℕ) → All (λ f. has_quantifier f ≡ false) fs → k < length fs → has_quantifier (formula_at fs k) ≡ false
propositional_at fs k all lt = ap has_quantifier (unwrap_or-slice_get fs k (Atom [] [])) ∙ all k (Atom [] []) lt

propositional_of : (fs : List Formula) (a : Node) → All (λ f. has_quantifier f ≡ false) fs → IsNode (length fs) a → has_quantifier (formula_of fs a) ≡ false
propositional_of fs (node.Atom atom) all is = ap has_quantifier is.2 ∙ has_quantifier-Atom is.0 is.1
propositional_of fs (node.Compound op args) all is =
    has_quantifier-Op op (map (formula_at fs) args)
    ∙ list_any_none has_quantifier (map (formula_at fs) args) (All-map (λ f. has_quantifier f ≡ false) (formula_at fs) args (λ i d lt. propositional_at fs (get_or args i d) all (is i d lt)))

pub numbering_more : (fs : List Formula) (a : Node) → IsNumbering fs → IsNode (length fs) a → ((k : ℕ) (f : Formula) → slice_get fs k ≡ Some f → f ≢ formula_of fs a) → IsNumbering (fs ++ formula_of fs a ∷ [])
numbering_more fs a numbering is absent = record {
  distinct = all_pairs_push (λ f g. f ≢ g) fs new numbering.distinct (λ k d lt. absent k (get_or fs k d) (slice_get-get_or fs k d lt));
  propositional = All-push (λ f. has_quantifier f ≡ false) fs new numbering.propositional (propositional_of fs a numbering.propositional is);
  arguments = λ k op args at. arguments_more k op args (slice_get-cases fs new (Op op args) k at);
} where
  new : Formula
  new = formula_of fs a

  before_more : (k : ℕ) (f : Formula) → StandsBefore fs k f → StandsBefore (fs ++ new ∷ []) k f
  before_more k f stands = record { place = stands.place; before = stands.before; is = slice_get-left fs (new ∷ []) stands.place f stands.is }

  of_node : (b : Node) → IsNode (length fs) b → (op : ℕ) (args : List Formula) → formula_of fs b ≡ Op op args → All (StandsBefore (fs ++ new ∷ []) (length fs)) args
  of_node (node.Atom atom) is_b op args same = absurd (atom_or_compound is_b.0 is_b.1 op args (sym is_b.2 ∙ same))
  of_node (node.Compound other numbers) is_b op args same =
      subst (All (StandsBefore (fs ++ new ∷ []) (length fs))) (same_Op same).1
      (All-map (StandsBefore (fs ++ new ∷ []) (length fs)) (formula_at fs) numbers
      (λ i d lt. record { place = get_or numbers i d; before = is_b i d lt; is = slice_get-left fs (new ∷ []) (get_or numbers i d) (formula_at fs (get_or numbers i d)) (at-formula_at fs (get_or numbers i d) (is_b i d lt)) }))

  arguments_more : (k op : ℕ) (args : List Formula) → (slice_get fs k ≡ Some (Op op args)) ⊎ ((k ≡ length fs) × (new ≡ Op op args)) → All (StandsBefore (fs ++ new ∷ []) k) args
  arguments_more k op args (inl at) = All-weaker (StandsBefore fs k) (StandsBefore (fs ++ new ∷ []) k) (before_more k) args (numbering.arguments k op args at)
  arguments_more k op args (inr last) = subst (λ n. All (StandsBefore (fs ++ new ∷ []) n) args) (sym last.0) (of_node a is op args last.1)

-- ---- a node by its number

-- the formula with a number is that of its node
pub formula_at-node : (formulas : List Formula) (nodes : List Node) (k : ℕ) (a : Node) → AreNodesOf formulas nodes → slice_get nodes k ≡ Some a → formula_at formulas k ≡ formula_of formulas a
formula_at-node formulas nodes k a are at = formula_at-is formulas k (formula_of formulas a) (are.formula k a at)

node_at : (nodes : List Node) (k : ℕ) (a b : Node) → k < length nodes → a ≡ get_or nodes k a → a ≡ b → slice_get nodes k ≡ Some b
node_at nodes k a b lt read is = slice_get_read nodes (length nodes) k a refl lt read ∙ ap (λ x. Some x) is

pub atom_at : (fs : List Formula) (nodes : List Node) (k : ℕ) (a : Node) (atom : Formula) → AreNodesOf fs nodes → k < length nodes → a ≡ get_or nodes k a → a ≡ node.Atom atom → slice_get fs k ≡ Some atom
atom_at fs nodes k a atom are lt read is = are.formula k (node.Atom atom) (node_at nodes k a (node.Atom atom) lt read is)

pub arguments_below : (fs : List Formula) (nodes : List Node) (k : ℕ) (a : Node) (op : ℕ) (args items : List ℕ) → AreNodesOf fs nodes → k < length nodes → a ≡ get_or nodes k a → a ≡ node.Compound op args → items ≡ args → All (λ j. j < k) items
arguments_below fs nodes k a op args items are lt read is same = subst (All (λ j. j < k)) (sym same) (are.over k (node.Compound op args) (node_at nodes k a (node.Compound op args) lt read is))

pub compound_at : (fs : List Formula) (nodes : List Node) (k : ℕ) (a : Node) (op : ℕ) (args items : List ℕ) (made : List Formula) → AreNodesOf fs nodes → k < length nodes → a ≡ get_or nodes k a → a ≡ node.Compound op args → items ≡ args
    → made ≡ map (formula_at fs) items → slice_get fs k ≡ Some (Op op made)
compound_at fs nodes k a op args items made are lt read is same copied =
    are.formula k (node.Compound op args) (node_at nodes k a (node.Compound op args) lt read is) ∙ ap (λ gs. Some (Op op gs)) (ap (map (formula_at fs)) (sym same) ∙ sym copied)
