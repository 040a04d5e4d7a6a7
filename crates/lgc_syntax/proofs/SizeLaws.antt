-- The sizes of each kind of term and of formula.
use Rattle.std.proofs.Common.{ℕ, zero, suc, ◌≡◌, ◌+◌, ◌<◌, ◌≤◌, Bool, true, false, max, List, [], ◌∷◌, length, take, get_or, map, ◌∙◌, ap, arith}
use Rattle.std.specs.List.{sum_by, list_any}
use Rattle.std.proofs.lemmas.List.Sums.{sum-map, sum_by_more, sum_by_more_le}
use Rattle.lgc_syntax.specs.declared.formula.Term.{Term, Bound, Free, Apply}
use Rattle.lgc_syntax.specs.declared.formula.Formula.{Formula, Atom, Op, Quant}
use Rattle.lgc_syntax.specs.Sizes.{greatest, term_nodes, term_nodes_layer, nodes, nodes_layer, term_depth, term_depth_layer, depth, depth_layer, has_quantifier, has_quantifier_layer, operators, operators_layer}
use Rattle.lgc_syntax.proofs.Folds.{fold-Bound, fold-Free, fold-Apply, fold-Atom, fold-Op, fold-Quant}
use Rattle.lgc_syntax.proofs.Induction.{term_induction, formula_induction}
use Rattle.lgc_syntax.proofs.Lists.{list_any-map}

pub term_nodes-Bound : (i : ℕ) → term_nodes (Bound i) ≡ 1
unfolding term_nodes
term_nodes-Bound i = fold-Bound ℕ term_nodes_layer i

pub term_nodes-Free : (x : List ℕ) → term_nodes (Free x) ≡ 1
unfolding term_nodes
term_nodes-Free x = fold-Free ℕ term_nodes_layer x

pub term_nodes-Apply : (f : List ℕ) (args : List Term) → term_nodes (Apply f args) ≡ 1 + sum_by term_nodes args
unfolding term_nodes
term_nodes-Apply f args = fold-Apply ℕ term_nodes_layer f args ∙ ap (λ n. 1 + n) (sum-map term_nodes args)

pub nodes-Atom : (p : List ℕ) (args : List Term) → nodes (Atom p args) ≡ 1 + sum_by term_nodes args
unfolding nodes
nodes-Atom p args = fold-Atom ℕ nodes_layer p args ∙ ap (λ n. 1 + n) (sum-map term_nodes args)

pub nodes-Op : (o : ℕ) (args : List Formula) → nodes (Op o args) ≡ 1 + sum_by nodes args
unfolding nodes
nodes-Op o args = fold-Op ℕ nodes_layer o args ∙ ap (λ n. 1 + n) (sum-map nodes args)

pub nodes-Quant : (q : ℕ) (body : Formula) → nodes (Quant q body) ≡ 1 + nodes body
unfolding nodes
nodes-Quant q body = fold-Quant ℕ nodes_layer q body

pub term_nodes_positive : (t : Term) → 1 ≤ term_nodes t
term_nodes_positive = term_induction (λ t. 1 ≤ term_nodes t) (λ i. omega (arith, term_nodes-Bound i)) (λ x. omega (arith, term_nodes-Free x)) (λ f args each. omega (arith, term_nodes-Apply f args))

pub nodes_positive : (f : Formula) → 1 ≤ nodes f
nodes_positive = formula_induction (λ f. 1 ≤ nodes f) (λ p args. omega (arith, nodes-Atom p args)) (λ o args each. omega (arith, nodes-Op o args)) (λ q body more. omega (arith, nodes-Quant q body))

pub ruleset node_rules = (term_nodes-Bound, term_nodes-Free, term_nodes-Apply, nodes-Atom, nodes-Op, nodes-Quant, term_nodes_positive, nodes_positive, sum_by_more, sum_by_more_le)

-- ---- depth

pub term_depth-Bound : (i : ℕ) → term_depth (Bound i) ≡ 1
unfolding term_depth
term_depth-Bound i = fold-Bound ℕ term_depth_layer i

pub term_depth-Free : (x : List ℕ) → term_depth (Free x) ≡ 1
unfolding term_depth
term_depth-Free x = fold-Free ℕ term_depth_layer x

pub term_depth-Apply : (f : List ℕ) (args : List Term) → term_depth (Apply f args) ≡ 1 + greatest (map term_depth args)
unfolding term_depth
term_depth-Apply f args = fold-Apply ℕ term_depth_layer f args

pub depth-Atom : (p : List ℕ) (args : List Term) → depth (Atom p args) ≡ 1 + greatest (map term_depth args)
unfolding depth
depth-Atom p args = fold-Atom ℕ depth_layer p args

pub depth-Op : (o : ℕ) (args : List Formula) → depth (Op o args) ≡ 1 + greatest (map depth args)
unfolding depth
depth-Op o args = fold-Op ℕ depth_layer o args

pub depth-Quant : (q : ℕ) (body : Formula) → depth (Quant q body) ≡ 1 + depth body
unfolding depth
depth-Quant q body = fold-Quant ℕ depth_layer q body

-- one more item, as at a step of a loop
greatest_more : {X : Type 0} (f : X → ℕ) (xs : List X) (i : ℕ) (d : X) → i < length xs → greatest (map f (take (i + 1) xs)) ≡ max (greatest (map f (take i xs))) (f (get_or xs i d))
greatest_more f [] i d lt = absurd (omega arith)
greatest_more f (x ∷ xs) zero d lt = grind arith
greatest_more f (x ∷ xs) (suc i) d lt = let rest = greatest_more f xs i d (omega arith) in let step : suc i + 1 ≡ suc (i + 1) = omega arith in rw step (grind (arith, rest))

pub greatest_within : {X : Type 0} (f : X → ℕ) (xs : List X) (i : ℕ) (x : X) (most : ℕ) → i < length xs → x ≡ get_or xs i x → greatest (map f (take i xs)) ≤ most → f x ≤ most → greatest (map f (take (i + 1) xs)) ≤ most
greatest_within f xs i x most lt is before here = rw (greatest_more f xs i x lt) (let at : f x ≡ f (get_or xs i x) = ap f is in omega arith)

-- each is at most the greatest
pub at-le-greatest : {X : Type 0} (f : X → ℕ) (xs : List X) (i : ℕ) (d : X) → i < length xs → f (get_or xs i d) ≤ greatest (map f xs)
at-le-greatest f [] i d lt = absurd (omega arith)
at-le-greatest f (x ∷ xs) zero d lt = omega arith
at-le-greatest f (x ∷ xs) (suc i) d lt = let rest = at-le-greatest f xs i d (omega arith) in omega (arith, rest)

pub term_depth_positive : (t : Term) → 1 ≤ term_depth t
term_depth_positive = term_induction (λ t. 1 ≤ term_depth t) (λ i. omega (arith, term_depth-Bound i)) (λ x. omega (arith, term_depth-Free x)) (λ f args each. omega (arith, term_depth-Apply f args))

pub depth_positive : (f : Formula) → 1 ≤ depth f
depth_positive = formula_induction (λ f. 1 ≤ depth f) (λ p args. omega (arith, depth-Atom p args)) (λ o args each. omega (arith, depth-Op o args)) (λ q body deep. omega (arith, depth-Quant q body))

pub ruleset depth_rules = (term_depth-Bound, term_depth-Free, term_depth-Apply, depth-Atom, depth-Op, depth-Quant, term_depth_positive, depth_positive, greatest_within, at-le-greatest)

-- ---- quantifiers

pub has_quantifier-Atom : (p : List ℕ) (args : List Term) → has_quantifier (Atom p args) ≡ false
unfolding has_quantifier
has_quantifier-Atom p args = fold-Atom Bool has_quantifier_layer p args

pub has_quantifier-Op : (o : ℕ) (args : List Formula) → has_quantifier (Op o args) ≡ list_any has_quantifier args
unfolding has_quantifier
has_quantifier-Op o args = fold-Op Bool has_quantifier_layer o args ∙ list_any-map has_quantifier args

pub has_quantifier-Quant : (q : ℕ) (body : Formula) → has_quantifier (Quant q body) ≡ true
unfolding has_quantifier
has_quantifier-Quant q body = fold-Quant Bool has_quantifier_layer q body

pub ruleset quantifier_rules = (has_quantifier-Atom, has_quantifier-Op, has_quantifier-Quant)

-- ---- operators

pub operators-Op : (o : ℕ) (args : List Formula) → operators (Op o args) ≡ 1 + sum_by operators args
unfolding operators
operators-Op o args = fold-Op ℕ operators_layer o args ∙ ap (λ n. 1 + n) (sum-map operators args)
