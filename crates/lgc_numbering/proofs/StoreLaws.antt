-- The formulas that are kept: a node is found by its key, and a node whose key isn't there is a new one.
use Rattle.std.proofs.Common.{ℕ, zero, suc, ◌≡◌, ◌≢◌, Bool, true, false, not, cond, List, [], ◌∷◌, ◌++◌, Option, Some, None, length, map, get_or, slice_get, position, refl, sym, ap, subst, ◌∙◌, arith, nat_eq}
use Rattle.std.specs.List.{list_any}
use Rattle.std.specs.Option.{option_map}
use Rattle.std.specs.Cmp.Lexicographic.{pointwise, bytes_decides}
use Rattle.std.proofs.lemmas.Bool.{or_parts}
use Rattle.std.proofs.lemmas.List.{map-append}
use Rattle.std.proofs.lemmas.List.Quantifiers.{position-Some}
use Rattle.std.proofs.lemmas.Option.{slice_get_within, slice_get-get_or, slice_get-map}
use Rattle.lgc_syntax.specs.declared.formula.Formula.{Formula}
use Rattle.lgc_numbering.specs.declared.node.Node.{Node}
use Rattle.lgc_numbering.specs.Numbering.{formula_of, formulas_of, IsNumbering, IsNode, AreNodesOf}
use Rattle.lgc_numbering.specs.Keys.{key_of}
use Rattle.lgc_numbering.specs.Store.{IsStore}
use Rattle.lgc_numbering.proofs.KeyLaws.{same_key}
use Rattle.lgc_numbering.proofs.Lists.{slice_get-last}
use Rattle.lgc_numbering.proofs.NumberingLaws.{same_node, IsNode-more, formulas_of-push, nodes_more, numbering_more}

-- the node with a number has its key under this number
key_at : (nodes : List Node) (keys : List (List ℕ)) (k : ℕ) (key : List ℕ) → keys ≡ map key_of nodes → slice_get keys k ≡ Some key → (b : Node) × (slice_get nodes k ≡ Some b) × (key_of b ≡ key)
key_at nodes keys k key coded at = found (slice_get nodes k) refl where
  seen : option_map key_of (slice_get nodes k) ≡ Some key
  seen = sym (slice_get-map key_of nodes k) ∙ ap (λ ks. slice_get ks k) (sym coded) ∙ at

  found : (r : Option Node) → slice_get nodes k ≡ r → (b : Node) × (slice_get nodes k ≡ Some b) × (key_of b ≡ key)
  found None is = absurd (let wrong : None ≡ Some key = ap (option_map key_of) (sym is) ∙ seen in cc)
  found (Some b) is = let same : Some (key_of b) ≡ Some key = ap (option_map key_of) (sym is) ∙ seen in let keys_same : key_of b ≡ key = cc in (b, is, keys_same)

-- the formula of a node stands where the node's key does
pub store_at : (nodes : List Node) (keys : List (List ℕ)) (a : Node) (k : ℕ) → IsStore nodes keys → IsNode (length (formulas_of nodes)) a → slice_get keys k ≡ Some (key_of a) → slice_get (formulas_of nodes) k ≡ Some (formula_of (formulas_of nodes) a)
store_at nodes keys a k store is at =
    let found = key_at nodes keys k (key_of a) store.coded at in
    let same = same_key k (length (formulas_of nodes)) found.0 a (store.parts.over k found.0 found.1) is found.2 in
    store.parts.formula k found.0 found.1 ∙ ap (λ b. Some (formula_of (formulas_of nodes) b)) same

-- a node whose key isn't there
pub store_more : (nodes : List Node) (keys : List (List ℕ)) (a : Node) → IsStore nodes keys → IsNode (length (formulas_of nodes)) a → ((k : ℕ) (key : List ℕ) → slice_get keys k ≡ Some key → key ≢ key_of a) → IsStore (nodes ++ a ∷ []) (keys ++ key_of a ∷ [])
store_more nodes keys a store is absent = record {
  coded = ap (λ ks. ks ++ key_of a ∷ []) store.coded ∙ sym (map-append key_of nodes (a ∷ []));
  parts = subst (λ fs. AreNodesOf fs (nodes ++ a ∷ [])) (sym (formulas_of-push nodes a)) (nodes_more (formulas_of nodes) nodes a store.parts is);
  numbering = subst IsNumbering (sym (formulas_of-push nodes a)) (numbering_more (formulas_of nodes) a store.numbering is new);
} where
  new : (k : ℕ) (f : Formula) → slice_get (formulas_of nodes) k ≡ Some f → f ≢ formula_of (formulas_of nodes) a
  new k f at same =
      let within = slice_get_within (formulas_of nodes) k f at in
      let b = get_or nodes k a in
      let b_at : slice_get nodes k ≡ Some b = slice_get-get_or nodes k a (omega (arith, within, store.parts.count)) in
      let twice : Some (formula_of (formulas_of nodes) b) ≡ Some f = sym (store.parts.formula k b b_at) ∙ at in
      let formula_same : formula_of (formulas_of nodes) b ≡ f = cc in
      let node_same = same_node (formulas_of nodes) store.numbering.distinct b a (IsNode-more k (length (formulas_of nodes)) b (omega (arith, within)) (store.parts.over k b b_at)) is (formula_same ∙ same) in
      let key_there : slice_get keys k ≡ Some (key_of b) = ap (λ ks. slice_get ks k) store.coded ∙ slice_get-map key_of nodes k ∙ ap (option_map key_of) b_at in
      absent k (key_of b) key_there (ap key_of node_same)

-- ---- as the set of keys has them

-- a found key is that of the node
pub store_found : {V : Type 0} (items : V → List ℕ) (nodes : List Node) (vs : List V) (v w : V) (a : Node) (k : ℕ) → IsStore nodes (map items vs) → IsNode (length (formulas_of nodes)) a → items v ≡ key_of a
    → slice_get vs k ≡ Some w → pointwise nat_eq (items v) (items w) ≡ true → slice_get (formulas_of nodes) k ≡ Some (formula_of (formulas_of nodes) a)
store_found items nodes vs v w a k store is key at same =
    let keys_same : items v ≡ items w = (bytes_decides (items v) (items w)).0 same in
    store_at nodes (map items vs) a k store is (slice_get-map items vs k ∙ ap (option_map items) at ∙ ap (λ key. Some key) (sym keys_same ∙ key))

pub store_position : {V : Type 0} (items : V → List ℕ) (nodes : List Node) (vs : List V) (v : V) (a : Node) (k : ℕ) → IsStore nodes (map items vs) → IsNode (length (formulas_of nodes)) a → items v ≡ key_of a
    → position (λ w. pointwise nat_eq (items v) (items w)) vs ≡ Some k → slice_get (formulas_of nodes) k ≡ Some (formula_of (formulas_of nodes) a)
store_position items nodes vs v a k store is key at =
    let found = position-Some (λ w. pointwise nat_eq (items v) (items w)) vs k v at in
    store_found items nodes vs v (get_or vs k v) a k store is key (slice_get-get_or vs k v found.0) found.1

absent_at : {V : Type 0} (items : V → List ℕ) (vs : List V) (key : List ℕ) → list_any (λ w. pointwise nat_eq key (items w)) vs ≡ false → (k : ℕ) (other : List ℕ) → slice_get (map items vs) k ≡ Some other → other ≢ key
absent_at items [] key none k other at same = cc
absent_at items (w ∷ vs) key none zero other at same =
    let here : items w ≡ other = cc in
    let test : pointwise nat_eq key (items w) ≡ true = (bytes_decides key (items w)).1 (sym same ∙ sym here) in
    let fails = (or_parts (pointwise nat_eq key (items w)) (list_any (λ w. pointwise nat_eq key (items w)) vs) none).0 in
    cc
absent_at items (w ∷ vs) key none (suc k) other at same = absent_at items vs key (or_parts (pointwise nat_eq key (items w)) (list_any (λ w. pointwise nat_eq key (items w)) vs) none).1 k other at same

-- what `insert` makes of the keys
kept_or_more : {V : Type 0} (b : Bool) (vs : List V) (v : V) → (b ≡ true → cond b vs (vs ++ v ∷ []) ≡ vs) × (b ≡ false → cond b vs (vs ++ v ∷ []) ≡ vs ++ v ∷ [])
kept_or_more true vs v = (λ _. refl, λ wrong. cc)
kept_or_more false vs v = (λ wrong. cc, λ _. refl)

turned : (b new : Bool) → new ≡ not b → (new ≡ false → b ≡ true) × (new ≡ true → b ≡ false)
turned true new is = (λ _. refl, λ wrong. cc)
turned false new is = (λ wrong. cc, λ _. refl)

pub store_stored : {V : Type 0} (items : V → List ℕ) (nodes : List Node) (vs after : List V) (v w : V) (a : Node) (k : ℕ) (new : Bool) → IsStore nodes (map items vs) → IsNode (length (formulas_of nodes)) a → items v ≡ key_of a
    → after ≡ cond (list_any (λ w. pointwise nat_eq (items v) (items w)) vs) vs (vs ++ v ∷ []) → new ≡ not (list_any (λ w. pointwise nat_eq (items v) (items w)) vs) → new ≡ false
    → slice_get after k ≡ Some w → pointwise nat_eq (items v) (items w) ≡ true → slice_get (formulas_of nodes) k ≡ Some (formula_of (formulas_of nodes) a)
store_stored items nodes vs after v w a k new store is key made told old at same =
    let there = list_any (λ w. pointwise nat_eq (items v) (items w)) vs in
    let kept = made ∙ (kept_or_more there vs v).0 ((turned there new told).0 old) in
    store_found items nodes vs v w a k store is key (ap (λ xs. slice_get xs k) (sym kept) ∙ at) same

pub store_inserted : {V : Type 0} (items : V → List ℕ) (nodes nodes_after : List Node) (vs after : List V) (v : V) (a : Node) (new : Bool) → IsStore nodes (map items vs) → IsNode (length (formulas_of nodes)) a → items v ≡ key_of a
    → after ≡ cond (list_any (λ w. pointwise nat_eq (items v) (items w)) vs) vs (vs ++ v ∷ []) → new ≡ not (list_any (λ w. pointwise nat_eq (items v) (items w)) vs) → new ≡ true → nodes_after ≡ nodes ++ a ∷ [] → IsStore nodes_after (map items after)
store_inserted items nodes nodes_after vs after v a new store is key made told fresh pushed =
    let there = list_any (λ w. pointwise nat_eq (items v) (items w)) vs in
    let absent = (turned there new told).1 fresh in
    let more = made ∙ (kept_or_more there vs v).1 absent in
    let keys = ap (map items) more ∙ map-append items vs (v ∷ []) ∙ ap (λ key. map items vs ++ key ∷ []) key in
    subst (λ ns. IsStore ns (map items after)) (sym pushed) (subst (IsStore (nodes ++ a ∷ [])) (sym keys)
    (store_more nodes (map items vs) a store is (λ k other at same. absent_at items vs (items v) absent k other at (same ∙ sym key))))

pub store_last : (nodes nodes_after : List Node) (keys : List (List ℕ)) (a : Node) → IsStore nodes keys → nodes_after ≡ nodes ++ a ∷ [] → slice_get (formulas_of nodes_after) (length nodes) ≡ Some (formula_of (formulas_of nodes) a)
store_last nodes nodes_after keys a store pushed =
    ap (λ ns. slice_get (formulas_of ns) (length nodes)) pushed
    ∙ ap (λ fs. slice_get fs (length nodes)) (formulas_of-push nodes a)
    ∙ ap (slice_get (formulas_of nodes ++ formula_of (formulas_of nodes) a ∷ [])) store.parts.count
    ∙ slice_get-last (formulas_of nodes) (formula_of (formulas_of nodes) a)
