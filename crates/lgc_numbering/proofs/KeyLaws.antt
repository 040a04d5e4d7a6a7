-- The keys of terms and atoms, and that no two nodes have one key.
use Rattle.std.proofs.Common.{ℕ, ◌≡◌, ◌+◌, List, [], ◌∷◌, ◌++◌, length, map, get_or, drop, ◌∙◌, ap, refl, sym, arith}
use Rattle.std.specs.List.{flat_map, AllByRecursion}
use Rattle.std.proofs.lemmas.List.{length-map, append_assoc, append-nil}
use Rattle.lgc_syntax.specs.declared.formula.Term.{Term, Bound, Free, Apply}
use Rattle.lgc_syntax.specs.declared.formula.Formula.{Formula, Atom, Op, Quant}
use Rattle.lgc_syntax.proofs.Folds.{fold-Bound, fold-Free, fold-Apply, fold-Atom, fold-Op, fold-Quant}
use Rattle.lgc_syntax.proofs.Induction.{term_induction}
use Rattle.lgc_numbering.specs.declared.node.Node.{Node}
use Rattle.lgc_numbering.specs.declared.node.Node.TheVariants as node
use Rattle.lgc_numbering.specs.Numbering.{IsNode}
use Rattle.lgc_numbering.specs.Keys.{name_key, term_key, term_key_layer, atom_key, atom_key_layer, key_of}

keys_joined : {X : Type 0} (f : X → List ℕ) (xs : List X) → flat_map (λ key. key) (map f xs) ≡ flat_map f xs
keys_joined f [] = refl
keys_joined f (x ∷ xs) = ap (λ rest. f x ++ rest) (keys_joined f xs)

pub term_key-Bound : (i : ℕ) → term_key (Bound i) ≡ 0 ∷ i ∷ []
unfolding term_key
term_key-Bound i = fold-Bound (List ℕ) term_key_layer i

pub term_key-Free : (x : List ℕ) → term_key (Free x) ≡ 1 ∷ name_key x
unfolding term_key
term_key-Free x = fold-Free (List ℕ) term_key_layer x

pub term_key-Apply : (f : List ℕ) (args : List Term) → term_key (Apply f args) ≡ 2 ∷ name_key f ++ length args ∷ flat_map term_key args
unfolding term_key
term_key-Apply f args = fold-Apply (List ℕ) term_key_layer f args ∙ (λ i. 2 ∷ name_key f ++ length-map args term_key i ∷ keys_joined term_key args i)

pub atom_key-Atom : (p : List ℕ) (args : List Term) → atom_key (Atom p args) ≡ name_key p ++ length args ∷ flat_map term_key args
unfolding atom_key
atom_key-Atom p args = fold-Atom (List ℕ) atom_key_layer p args

pub atom_key-Op : (o : ℕ) (args : List Formula) → atom_key (Op o args) ≡ []
unfolding atom_key
atom_key-Op o args = fold-Op (List ℕ) atom_key_layer o args

pub atom_key-Quant : (q : ℕ) (body : Formula) → atom_key (Quant q body) ≡ []
unfolding atom_key
atom_key-Quant q body = fold-Quant (List ℕ) atom_key_layer q body

-- keys as they are written, part by part
pub written-Bound : (key : List ℕ) (i : ℕ) → (key ++ 0 ∷ []) ++ i ∷ [] ≡ key ++ term_key (Bound i)
written-Bound key i = append_assoc key (0 ∷ []) (i ∷ []) ∙ ap (λ rest. key ++ rest) (sym (term_key-Bound i))

pub written-Free : (key x : List ℕ) → (key ++ 1 ∷ []) ++ name_key x ≡ key ++ term_key (Free x)
written-Free key x = append_assoc key (1 ∷ []) (name_key x) ∙ ap (λ rest. key ++ rest) (sym (term_key-Free x))

pub written-Apply : (key f : List ℕ) (args : List Term) → ((key ++ 2 ∷ []) ++ name_key f) ++ length args ∷ flat_map term_key args ≡ key ++ term_key (Apply f args)
written-Apply key f args =
    append_assoc (key ++ 2 ∷ []) (name_key f) (length args ∷ flat_map term_key args)
    ∙ append_assoc key (2 ∷ []) (name_key f ++ length args ∷ flat_map term_key args)
    ∙ ap (λ rest. key ++ rest) (sym (term_key-Apply f args))

pub written-Atom : (key p : List ℕ) (args : List Term) → (key ++ name_key p) ++ length args ∷ flat_map term_key args ≡ key ++ atom_key (Atom p args)
written-Atom key p args = append_assoc key (name_key p) (length args ∷ flat_map term_key args) ∙ ap (λ rest. key ++ rest) (sym (atom_key-Atom p args))

pub written-Op : (key : List ℕ) (o : ℕ) (args : List Formula) → key ++ atom_key (Op o args) ≡ key
written-Op key o args = ap (λ rest. key ++ rest) (atom_key-Op o args) ∙ append-nil key

pub written-Quant : (key : List ℕ) (q : ℕ) (body : Formula) → key ++ atom_key (Quant q body) ≡ key
written-Quant key q body = ap (λ rest. key ++ rest) (atom_key-Quant q body) ∙ append-nil key

pub ruleset key_rules = (written-Bound, written-Free, written-Apply, written-Atom, written-Op, written-Quant)

-- ---- a key tells its node

first : (x y : ℕ) (xs ys : List ℕ) → x ∷ xs ≡ y ∷ ys → x ≡ y
first x y xs ys same = ap (λ key. get_or key 0 0) same

rest : (x y : ℕ) (xs ys : List ℕ) → x ∷ xs ≡ y ∷ ys → xs ≡ ys
rest x y xs ys same = ap (λ key. drop 1 key) same

cancel : (xs ys r s : List ℕ) → length xs ≡ length ys → xs ++ r ≡ ys ++ s → (xs ≡ ys) × (r ≡ s)
cancel [] [] r s long same = (refl, same)
cancel [] (y ∷ ys) r s long same = absurd (omega (arith, long))
cancel (x ∷ xs) [] r s long same = absurd (omega (arith, long))
cancel (x ∷ xs) (y ∷ ys) r s long same =
    let more = cancel xs ys r s (omega (arith, long)) (rest x y (xs ++ r) (ys ++ s) same) in
    (λ i. first x y (xs ++ r) (ys ++ s) same i ∷ more.0 i, more.1)

same_name_key : (x y r s : List ℕ) → name_key x ++ r ≡ name_key y ++ s → (x ≡ y) × (r ≡ s)
same_name_key x y r s same = cancel x y r s (first (length x) (length y) (x ++ r) (y ++ s) same) (rest (length x) (length y) (x ++ r) (y ++ s) same)

-- the key of a term tells the term, and what comes behind it
abbrev IsTold : Term → Type 0
IsTold t = (u : Term) (r s : List ℕ) → term_key t ++ r ≡ term_key u ++ s → (t ≡ u) × (r ≡ s)

terms_told : (ts us : List Term) (r s : List ℕ) → AllByRecursion IsTold ts → length ts ≡ length us → flat_map term_key ts ++ r ≡ flat_map term_key us ++ s → (ts ≡ us) × (r ≡ s)
terms_told [] [] r s each long same = (refl, same)
terms_told [] (u ∷ us) r s each long same = absurd (omega (arith, long))
terms_told (t ∷ ts) [] r s each long same = absurd (omega (arith, long))
terms_told (t ∷ ts) (u ∷ us) r s each long same =
    let here = each.0 u (flat_map term_key ts ++ r) (flat_map term_key us ++ s) (sym (append_assoc (term_key t) (flat_map term_key ts) r) ∙ same ∙ append_assoc (term_key u) (flat_map term_key us) s) in
    let more = terms_told ts us r s each.1 (omega (arith, long)) here.1 in
    (λ i. here.0 i ∷ more.0 i, more.1)

-- a name with terms
named_told : (x y : List ℕ) (ts us : List Term) (r s : List ℕ) → AllByRecursion IsTold ts → (name_key x ++ length ts ∷ flat_map term_key ts) ++ r ≡ (name_key y ++ length us ∷ flat_map term_key us) ++ s
    → (x ≡ y) × (ts ≡ us) × (r ≡ s)
named_told x y ts us r s each same =
    let name = same_name_key x y ((length ts ∷ flat_map term_key ts) ++ r) ((length us ∷ flat_map term_key us) ++ s)
    (sym (append_assoc (name_key x) (length ts ∷ flat_map term_key ts) r) ∙ same ∙ append_assoc (name_key y) (length us ∷ flat_map term_key us) s) in
    let long = first (length ts) (length us) (flat_map term_key ts ++ r) (flat_map term_key us ++ s) name.1 in
    let more = terms_told ts us r s each long (rest (length ts) (length us) (flat_map term_key ts ++ r) (flat_map term_key us ++ s) name.1) in
    (name.0, more.0, more.1)

-- the same with each key written out
swapped : (a b c d r s : List ℕ) → a ≡ b → c ≡ d → a ++ r ≡ c ++ s → b ++ r ≡ d ++ s
swapped a b c d r s ab cd same = ap (λ key. key ++ r) (sym ab) ∙ same ∙ ap (λ key. key ++ s) cd

told-Bound : (i : ℕ) → IsTold (Bound i)
told-Bound i u r s = term_induction (λ u. term_key (Bound i) ++ r ≡ term_key u ++ s → (Bound i ≡ u) × (r ≡ s))
    (λ j same. let keys = swapped (term_key (Bound i)) (0 ∷ i ∷ []) (term_key (Bound j)) (0 ∷ j ∷ []) r s (term_key-Bound i) (term_key-Bound j) same in
    let more = rest 0 0 (i ∷ r) (j ∷ s) keys in (ap Bound (first i j r s more), rest i j r s more))
    (λ y same. absurd (let keys = swapped (term_key (Bound i)) (0 ∷ i ∷ []) (term_key (Free y)) (1 ∷ name_key y) r s (term_key-Bound i) (term_key-Free y) same in
    let wrong = first 0 1 (i ∷ r) (name_key y ++ s) keys in omega (arith, wrong)))
    (λ g us each same. absurd (let keys = swapped (term_key (Bound i)) (0 ∷ i ∷ []) (term_key (Apply g us)) (2 ∷ name_key g ++ length us ∷ flat_map term_key us) r s (term_key-Bound i) (term_key-Apply g us) same in
    let wrong = first 0 2 (i ∷ r) ((name_key g ++ length us ∷ flat_map term_key us) ++ s) keys in omega (arith, wrong)))
    u

told-Free : (x : List ℕ) → IsTold (Free x)
told-Free x u r s = term_induction (λ u. term_key (Free x) ++ r ≡ term_key u ++ s → (Free x ≡ u) × (r ≡ s))
    (λ j same. absurd (let keys = swapped (term_key (Free x)) (1 ∷ name_key x) (term_key (Bound j)) (0 ∷ j ∷ []) r s (term_key-Free x) (term_key-Bound j) same in
    let wrong = first 1 0 (name_key x ++ r) (j ∷ s) keys in omega (arith, wrong)))
    (λ y same. let keys = swapped (term_key (Free x)) (1 ∷ name_key x) (term_key (Free y)) (1 ∷ name_key y) r s (term_key-Free x) (term_key-Free y) same in
    let name = same_name_key x y r s (rest 1 1 (name_key x ++ r) (name_key y ++ s) keys) in (ap Free name.0, name.1))
    (λ g us each same. absurd (let keys = swapped (term_key (Free x)) (1 ∷ name_key x) (term_key (Apply g us)) (2 ∷ name_key g ++ length us ∷ flat_map term_key us) r s (term_key-Free x) (term_key-Apply g us) same in
    let wrong = first 1 2 (name_key x ++ r) ((name_key g ++ length us ∷ flat_map term_key us) ++ s) keys in omega (arith, wrong)))
    u

told-Apply : (f : List ℕ) (ts : List Term) → AllByRecursion IsTold ts → IsTold (Apply f ts)
told-Apply f ts each u r s = term_induction (λ u. term_key (Apply f ts) ++ r ≡ term_key u ++ s → (Apply f ts ≡ u) × (r ≡ s))
    (λ j same. absurd (let keys = swapped (term_key (Apply f ts)) (2 ∷ name_key f ++ length ts ∷ flat_map term_key ts) (term_key (Bound j)) (0 ∷ j ∷ []) r s (term_key-Apply f ts) (term_key-Bound j) same in
    let wrong = first 2 0 ((name_key f ++ length ts ∷ flat_map term_key ts) ++ r) (j ∷ s) keys in omega (arith, wrong)))
    (λ y same. absurd (let keys = swapped (term_key (Apply f ts)) (2 ∷ name_key f ++ length ts ∷ flat_map term_key ts) (term_key (Free y)) (1 ∷ name_key y) r s (term_key-Apply f ts) (term_key-Free y) same in
    let wrong = first 2 1 ((name_key f ++ length ts ∷ flat_map term_key ts) ++ r) (name_key y ++ s) keys in omega (arith, wrong)))
    (λ g us _ same. let keys = swapped (term_key (Apply f ts)) (2 ∷ name_key f ++ length ts ∷ flat_map term_key ts) (term_key (Apply g us)) (2 ∷ name_key g ++ length us ∷ flat_map term_key us) r s (term_key-Apply f ts) (term_key-Apply g us) same in
    let parts = named_told f g ts us r s each (rest 2 2 ((name_key f ++ length ts ∷ flat_map term_key ts) ++ r) ((name_key g ++ length us ∷ flat_map term_key us) ++ s) keys) in
    (λ i. Apply (parts.0 i) (parts.1 i), parts.2))
    u

term_told : (t : Term) → IsTold t
term_told = term_induction IsTold told-Bound told-Free told-Apply

all_told : (ts : List Term) → AllByRecursion IsTold ts
all_told [] = tt
all_told (t ∷ ts) = (term_told t, all_told ts)

-- atoms are told by their keys
same_atom_key : (p q : List ℕ) (ts us : List Term) → atom_key (Atom p ts) ≡ atom_key (Atom q us) → Atom p ts ≡ Atom q us
same_atom_key p q ts us same =
    let keys = sym (atom_key-Atom p ts) ∙ same ∙ atom_key-Atom q us in
    let parts = named_told p q ts us [] [] (all_told ts) (ap (λ key. key ++ []) keys) in
    λ i. Atom (parts.0 i) (parts.1 i)

-- two nodes with one key are the same
pub same_key : (m n : ℕ) (a b : Node) → IsNode m a → IsNode n b → key_of a ≡ key_of b → a ≡ b
same_key m n (node.Atom f) (node.Atom g) is_f is_g same =
    let keys = ap atom_key (sym is_f.2) ∙ rest 0 0 (atom_key f) (atom_key g) same ∙ ap atom_key is_g.2 in
    ap node.Atom (is_f.2 ∙ same_atom_key is_f.0 is_g.0 is_f.1 is_g.1 keys ∙ sym is_g.2)
same_key m n (node.Atom f) (node.Compound op args) is_f is_g same = absurd (let wrong = first 0 (op + 1) (atom_key f) args same in omega (arith, wrong))
same_key m n (node.Compound op args) (node.Atom g) is_f is_g same = absurd (let wrong = first (op + 1) 0 args (atom_key g) same in omega (arith, wrong))
same_key m n (node.Compound op args) (node.Compound other numbers) is_f is_g same =
    let number : op + 1 ≡ other + 1 = first (op + 1) (other + 1) args numbers same in
    let operator : op ≡ other = omega (arith, number) in
    λ i. node.Compound (operator i) (rest (op + 1) (other + 1) args numbers same i)
