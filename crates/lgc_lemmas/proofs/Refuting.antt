-- Values under which a goal without compounds is false, node by node.
use Rattle.std.proofs.Common.{◌≡◌, ◌≢◌, ℕ, zero, suc, ◌+◌, ◌*◌, ◌^◌, ◌<◌, ◌≤◌, Bool, true, false, ◌==◌, ◌||◌, ◌&&◌, not, ◌⊎◌, inl, inr, List, [], ◌∷◌, ◌++◌, map, length, get_or, slice_get, slice_index, take, drop, Some, None, refl, sym, ◌∙◌, ap, subst, arith, ⊎_elim, add-one, length-append}
use Rattle.std.specs.Prelude.{All, Option}
use Rattle.std.proofs.lemmas.List.{drop_more, take_more, map-append, length-map, length-append}
use Rattle.std.proofs.lemmas.List.Elements.{All-push, All-weaker, All-head, All-tail}
use Rattle.std.proofs.lemmas.Option.{slice_get-get_or, slice_get_within, slice_get_read, get_or_from_slice_get, unwrap_or-slice_get}
use Rattle.std.proofs.lemmas.Bool.{eqb-true, ne_eqb, and_parts, and_left, or_cases, or_parts, or_left, false_from_ne_true, true≢false}
use Rattle.std.proofs.lemmas.Bool.Decides.{eqb_tells}
use Rattle.lgc_values.specs.declared.TheConstants.{MOST_ROWS}
use Rattle.lgc_values.specs.declared.matrix.Operator.{Operator}
use Rattle.lgc_values.specs.Values.{has, values_where, IsLeast, NonePasses}
use Rattle.lgc_values.specs.Logic.{Logic, IsLogic, IsOperator, operator_at}
use Rattle.lgc_sequents.specs.Sequents.{has_all}
use Rattle.lgc_syntax.specs.Values.{row_index, operation}
use Rattle.lgc_meaning.proofs.Rows.{row_index-append, row_digit}
use Rattle.lgc_numbering.specs.declared.node.Node.{Node}
use Rattle.lgc_numbering.specs.declared.node.Node.TheVariants.{Atom, Compound}
use Rattle.lgc_packed.specs.Packed.{IsPacked, marks, is_true_of, is_full}
use Rattle.lgc_packed.proofs.Marks.{marks-own}
use Rattle.lgc_packed.proofs.Truth.{mark_from_true}
use Rattle.lgc_packed.proofs.InclusionLaws.{marked_has, has_all-none}
use Rattle.lgc_lemmas.specs.Nodes.{AreNodes, AreValues, HasNumbersBelow, IsCompoundAt, is_compound_node, has_compound}
use Rattle.lgc_lemmas.specs.Answers.{IsRefutedBy}

-- ---- a value that doesn't stand on a formula
not_from : (b : Bool) → not b ≡ true → b ≡ false
not_from true h = sym h
not_from false h = refl

full_at : (n : ℕ) (xs : List (ℕ × List ℕ)) (i : ℕ) (d : ℕ × List ℕ) → is_full n xs ≡ false → slice_get xs i ≡ Some d → has_all n d.1 ≡ true → ⊥
full_at n [] i d not_full here full = cc
full_at n (x ∷ xs) zero d not_full here full = let e : x ≡ d = cc in true≢false (sym (or_left (has_all n x.1) (is_full n xs) (ap (λ (y : ℕ × List ℕ). has_all n y.1) e ∙ full)) ∙ not_full)
full_at n (x ∷ xs) (suc i) d not_full here full = full_at n xs i d (or_parts (has_all n x.1) (is_full n xs) not_full).1 here full

pub some_missing : (n : ℕ) (xs : List (ℕ × List ℕ)) (i : ℕ) (d : ℕ × List ℕ) → is_full n xs ≡ false → i < length xs → d ≡ get_or xs i d → NonePasses n (λ w. not (has d.1 w)) → ⊥
some_missing n xs i d not_full l is none = full_at n xs i d not_full (slice_get_read xs (length xs) i d refl l is) (has_all-none n d.1 none)

pub outside_here : (n k v : ℕ) (xs : List (ℕ × List ℕ)) (i : ℕ) (d : ℕ × List ℕ) → IsPacked n xs → i < length xs → d ≡ get_or xs i d → d.0 ≡ k → IsLeast n (λ w. not (has d.1 w)) v → marks xs k v ≡ false
outside_here n k v xs i d packed l is same least = ap (λ j. marks xs j v) (sym same) ∙ marks-own n xs i d v packed (slice_get_read xs (length xs) i d refl l is) ∙ not_from (has d.1 v) least.passes

-- ---- one value more
value_before : (xs : List ℕ) (v k : ℕ) → k < length xs → slice_index (xs ++ v ∷ []) k ≡ slice_index xs k
value_before [] v k l = absurd (omega (arith, l))
value_before (x ∷ xs) v zero l = refl
value_before (x ∷ xs) v (suc k) l = value_before xs v k (omega (arith, l))

value_last : (xs : List ℕ) (v : ℕ) → slice_index (xs ++ v ∷ []) (length xs) ≡ v
value_last [] v = refl
value_last (x ∷ xs) v = value_last xs v

pub length_push : (xs : List ℕ) (v : ℕ) → length (xs ++ v ∷ []) ≡ length xs + 1
length_push xs v = length-append xs (v ∷ [])

values_before : (xs : List ℕ) (v : ℕ) (arguments : List ℕ) → All (λ a. a < length xs) arguments → map (slice_index (xs ++ v ∷ [])) arguments ≡ map (slice_index xs) arguments
values_before xs v [] all = refl
values_before xs v (a ∷ arguments) all = (λ j. value_before xs v a (All-head (λ k. k < length xs) a arguments all) j ∷ values_before xs v arguments (All-tail (λ k. k < length xs) a arguments all) j)

pub numbers_up : (k m : ℕ) (arguments : List ℕ) → k ≤ m → All (λ a. a < k) arguments → All (λ a. a < m) arguments
numbers_up k m arguments l all = All-weaker (λ a. a < k) (λ a. a < m) (λ a b. omega (arith, l, b)) arguments all

-- the values of the nodes so far: they go by the tables, and none stands on its atom
pub record AreValuesSoFar (logic : Logic) (nodes : List Node) (goal : List (ℕ × List ℕ)) (values : List ℕ) : Type 0 where
  pub below : All (λ v. v < logic.size) values
  pub compounds : (k op : ℕ) (arguments : List ℕ) → k < length values → slice_get nodes k ≡ Some (Compound op arguments) → slice_index values k ≡ operation logic op (map (slice_index values) arguments)
  pub atoms : (k : ℕ) → k < length values → is_compound_node (slice_get nodes k) ≡ false → marks goal k (slice_index values k) ≡ false

module _ (logic : Logic) (nodes : List Node) (goal : List (ℕ × List ℕ)) where
  pub no_values : AreValuesSoFar logic nodes goal []
  no_values = record { below = λ i d l. absurd (omega (arith, l)); compounds = λ k op arguments l here. absurd (omega (arith, l)); atoms = λ k l here. absurd (omega (arith, l)) }

  module _ (are_nodes : AreNodes logic nodes) (values new : List ℕ) (v : ℕ) (made : new ≡ values ++ v ∷ []) (so_far : AreValuesSoFar logic nodes goal values) (below : v < logic.size)
      (compound : (op : ℕ) (arguments : List ℕ) → slice_get nodes (length values) ≡ Some (Compound op arguments) → v ≡ operation logic op (map (slice_index values) arguments)) (atom : is_compound_node (slice_get nodes (length values)) ≡ false → marks goal (length values) v ≡ false) where
    here : (k : ℕ) → k ≡ length values → slice_index (values ++ v ∷ []) k ≡ v
    here k e = ap (slice_index (values ++ v ∷ [])) e ∙ value_last values v

    compound_at : (k op : ℕ) (arguments : List ℕ) → k < length (values ++ v ∷ []) → slice_get nodes k ≡ Some (Compound op arguments) → (((k == length values) ≡ true) × (k ≡ length values)) ⊎ (((k == length values) ≡ false) × (k ≢ length values))
        → slice_index (values ++ v ∷ []) k ≡ operation logic op (map (slice_index (values ++ v ∷ [])) arguments)
    compound_at k op arguments l at (inl e) =
        here k e.1 ∙ compound op arguments (ap (slice_get nodes) (sym e.1) ∙ at) ∙ ap (operation logic op) (sym (values_before values v arguments (numbers_up k (length values) arguments (omega (arith, e.1)) (are_nodes k op arguments at).before)))
    compound_at k op arguments l at (inr e) =
        let less : k < length values = omega (arith, l, e.1, length_push values v) in
        value_before values v k less ∙ so_far.compounds k op arguments less at ∙ ap (operation logic op) (sym (values_before values v arguments (numbers_up k (length values) arguments (omega (arith, less)) (are_nodes k op arguments at).before)))

    atom_at : (k : ℕ) → k < length (values ++ v ∷ []) → is_compound_node (slice_get nodes k) ≡ false → (((k == length values) ≡ true) × (k ≡ length values)) ⊎ (((k == length values) ≡ false) × (k ≢ length values)) → marks goal k (slice_index (values ++ v ∷ []) k) ≡ false
    atom_at k l at (inl e) = (λ j. marks goal (e.1 j) (here k e.1 j)) ∙ atom (ap (λ i. is_compound_node (slice_get nodes i)) (sym e.1) ∙ at)
    atom_at k l at (inr e) =
        let less : k < length values = omega (arith, l, e.1, length_push values v) in
        ap (marks goal k) (value_before values v k less) ∙ so_far.atoms k less at

    pub more_values : AreValuesSoFar logic nodes goal new
    more_values = subst (AreValuesSoFar logic nodes goal) (sym made) (record {
      below = All-push (λ u. u < logic.size) values v so_far.below below;
      compounds = λ k op arguments l at. compound_at k op arguments l at (eqb_tells k (length values));
      atoms = λ k l at. atom_at k l at (eqb_tells k (length values));
    })

  pub more_by_atom : (are_nodes : AreNodes logic nodes) (values new : List ℕ) (v : ℕ) → new ≡ values ++ v ∷ [] → AreValuesSoFar logic nodes goal values → v < logic.size → is_compound_node (slice_get nodes (length values)) ≡ false → marks goal (length values) v ≡ false → AreValuesSoFar logic nodes goal new
  more_by_atom are_nodes values new v made so_far below atom outside = more_values are_nodes values new v made so_far below (λ op arguments at. absurd (true≢false (ap is_compound_node (sym at) ∙ atom))) (λ _. outside)

  pub more_by_compound : (are_nodes : AreNodes logic nodes) (values new : List ℕ) (v op : ℕ) (arguments : List ℕ) → new ≡ values ++ v ∷ [] → AreValuesSoFar logic nodes goal values → v < logic.size → slice_get nodes (length values) ≡ Some (Compound op arguments)
      → v ≡ operation logic op (map (slice_index values) arguments) → AreValuesSoFar logic nodes goal new
  more_by_compound are_nodes values new v op arguments made so_far below at value = more_values are_nodes values new v made so_far below
      (λ o others there. let both : Some (Compound op arguments) ≡ Some (Compound o others) = sym at ∙ there in let first : op ≡ o = cc in let rest : arguments ≡ others = cc in value ∙ (λ j. operation logic (first j) (map (slice_index values) (rest j))))
      (λ no. absurd (true≢false (ap is_compound_node (sym at) ∙ no)))

  no_compound : (xs : List (ℕ × List ℕ)) (k w : ℕ) → has_compound nodes xs ≡ false → marks xs k w ≡ true → is_compound_node (slice_get nodes k) ≡ false
  no_compound [] k w none m = absurd (true≢false (sym m))
  no_compound (x ∷ xs) k w none m =
      let parts = or_parts (is_compound_node (slice_get nodes x.0)) (has_compound nodes xs) none in
      ⊎_elim
      (λ this. ap (λ j. is_compound_node (slice_get nodes j)) (sym (eqb-true x.0 k (and_parts (x.0 == k) (has x.1 w) this).0)) ∙ parts.0)
      (λ later. no_compound xs k w parts.1 later)
      (or_cases ((x.0 == k) && has x.1 w) (marks xs k w) m)

  value_below : (values : List ℕ) (k : ℕ) → 0 < logic.size → All (λ v. v < logic.size) values → slice_index values k < logic.size
  value_below [] k l all = l
  value_below (x ∷ xs) zero l all = All-head (λ v. v < logic.size) x xs all
  value_below (x ∷ xs) (suc k) l all = value_below xs k l (All-tail (λ v. v < logic.size) x xs all)

  pub refuted_by : (values : List ℕ) → IsLogic logic → HasNumbersBelow (length nodes) goal → has_compound nodes goal ≡ false → length nodes ≤ length values → AreValuesSoFar logic nodes goal values → IsRefutedBy logic nodes goal values
  refuted_by values is numbers none whole so_far = record {
    values_are = record {
      below = λ k. value_below values k (omega (arith, is.sized.low)) so_far.below;
      compounds = λ k op arguments at. so_far.compounds k op arguments (omega (arith, whole, slice_get_within nodes k (Compound op arguments) at)) at;
    };
    fails = false_from_ne_true (is_true_of (slice_index values) goal) (λ holds. let found = mark_from_true (slice_index values) goal holds in fails_at found.0 found.1);
  }
    where
      fails_at : (k : ℕ) → marks goal k (slice_index values k) ≡ true → ⊥
      fails_at k m =
          let within = marked_has (λ j. j < length nodes) goal k (slice_index values k) numbers m in
          true≢false (sym m ∙ so_far.atoms k (omega (arith, whole, within)) (no_compound goal k (slice_index values k) none m))

-- ---- the row of the arguments' values
abbrev no_operator : Operator
no_operator = record { name = []; arity = 0; table = [] }

module _ (logic : Logic) (op : ℕ) (values arguments : List ℕ) (is : IsLogic logic) (known : op < length logic.operators) (arity : length arguments ≡ (operator_at logic op).arity) (below : All (λ v. v < logic.size) values) (i row : ℕ) (within : i < length arguments) (bound : row < logic.size ^ i) where
  operator_known : IsOperator logic.size (operator_at logic op)
  operator_known = subst (IsOperator logic.size) (sym (unwrap_or-slice_get logic.operators op no_operator)) (is.operators op no_operator known)

  digit : (row * logic.size + slice_index values (slice_index arguments i) < logic.size ^ (i + 1)) × (logic.size ^ (i + 1) ≤ MOST_ROWS)
  digit = row_digit logic.size i (length arguments) row (slice_index values (slice_index arguments i)) bound (value_below logic [] [] values (slice_index arguments i) (omega (arith, is.sized.low)) below) within (subst (λ k. logic.size ^ k ≤ MOST_ROWS) (sym arity) operator_known.short)

  pub row_more : (size : ℕ) → logic.size ≡ size → row * size + slice_index values (slice_index arguments i) < logic.size ^ (i + 1)
  row_more size same = subst (λ n. row * n + slice_index values (slice_index arguments i) < logic.size ^ (i + 1)) same digit.0

  pub row_fits : (size : ℕ) → logic.size ≡ size → row * size + slice_index values (slice_index arguments i) < 2 ^ 32
  row_fits size same = omega (arith, row_more size same, digit.1)

  pub row_index_more : (size : ℕ) → logic.size ≡ size → row ≡ row_index logic.size (map (slice_index values) (take i arguments)) → row * size + slice_index values (slice_index arguments i) ≡ row_index logic.size (map (slice_index values) (take (i + 1) arguments))
  row_index_more size same so_far =
      let more : map (slice_index values) (take (i + 1) arguments) ≡ map (slice_index values) (take i arguments) ++ slice_index values (slice_index arguments i) ∷ [] = ap (map (slice_index values)) (take_more arguments i 0 within) ∙ map-append (slice_index values) (take i arguments) (slice_index arguments i ∷ []) in
      (λ j. so_far j * sym same j + slice_index values (slice_index arguments i)) ∙ sym (ap (row_index logic.size) more ∙ row_index-append logic.size (map (slice_index values) (take i arguments)) (slice_index values (slice_index arguments i)))

-- ---- compounds
compound_parts : (node : Option Node) → is_compound_node node ≡ true → (op : ℕ) × ((arguments : List ℕ) × (node ≡ Some (Compound op arguments)))
compound_parts None compound = absurd (true≢false (sym compound))
compound_parts (Some (Atom f)) compound = absurd (true≢false (sym compound))
compound_parts (Some (Compound op arguments)) compound = (op, (arguments, refl))

pub compound_there : (nodes : List Node) (goal pairs : List (ℕ × List ℕ)) (at : ℕ) (d : ℕ × List ℕ) → pairs ≡ goal → at < length pairs → is_compound_node (slice_get nodes (get_or pairs at d).0) ≡ true → IsCompoundAt nodes goal at
compound_there nodes goal pairs at d same l compound =
    let parts = compound_parts (slice_get nodes (get_or pairs at d).0) compound in
    record {
      number = (get_or pairs at d).0;
      sign = (get_or pairs at d).1;
      op = parts.0;
      arguments = parts.1.0;
      is = ap (λ (xs : List (ℕ × List ℕ)). slice_get xs at) (sym same) ∙ slice_get-get_or pairs at d l;
      compound = parts.1.1;
    }

pub compound_back : (nodes : List Node) (goal pairs : List (ℕ × List ℕ)) (at : ℕ) (d : ℕ × List ℕ) → pairs ≡ goal → IsCompoundAt nodes goal at → is_compound_node (slice_get nodes (get_or pairs at d).0) ≡ true
compound_back nodes goal pairs at d same is =
    let here : get_or pairs at d ≡ (is.number, is.sign) = get_or_from_slice_get pairs at (is.number, is.sign) d (ap (λ (xs : List (ℕ × List ℕ)). slice_get xs at) same ∙ is.is) in
    ap (λ (pair : ℕ × List ℕ). is_compound_node (slice_get nodes pair.0)) here ∙ ap is_compound_node is.compound

pub node_there : (nodes : List Node) (k : ℕ) (d : Node) → k < length nodes → d ≡ get_or nodes k d → slice_get nodes k ≡ Some d
node_there nodes k d l is = slice_get_read nodes (length nodes) k d refl l is
