-- What an instance is, for each kind of term and of formula.
use Rattle.std.proofs.Common.{ℕ, ◌≡◌, ◌+◌, ◌-◌, ◌<◌, List, map, ◌∙◌, ap, arith}
use Rattle.std.proofs.lemmas.Bool.{lt-ltb, le-ltb, eq-eqb, ne_eqb}
use Rattle.std.proofs.lemmas.Simd.{map-map}
use Rattle.lgc_syntax.specs.declared.formula.Term.{Term, Bound, Free, Apply}
use Rattle.lgc_syntax.specs.declared.formula.Formula.{Formula, Atom, Op, Quant}
use Rattle.lgc_syntax.specs.Substitution.{put_for_bound, put_in_term, put_in_term_layer, put_in, put_in_layer}
use Rattle.lgc_syntax.proofs.Folds.{fold-Bound, fold-Free, fold-Apply, fold-Atom, fold-Op, fold-Quant}

module _ (t : Term) where
  pub put_for_bound-below : (i k : ℕ) → i < k → put_for_bound t i k ≡ Bound i
  unfolding put_for_bound
  put_for_bound-below i k lt = rw (lt-ltb i k lt)

  pub put_for_bound-at : (i k : ℕ) → i ≡ k → put_for_bound t i k ≡ t
  unfolding put_for_bound
  put_for_bound-at i k same = rw (le-ltb i k (omega arith), eq-eqb i k same)

  pub put_for_bound-past : (i k : ℕ) → k < i → put_for_bound t i k ≡ Bound (i - 1)
  unfolding put_for_bound
  put_for_bound-past i k lt = rw (le-ltb i k (omega arith), ne_eqb i k (λ same. omega arith))

  pub put_in_term-Bound : (i k : ℕ) → put_in_term t (Bound i) k ≡ put_for_bound t i k
  unfolding put_in_term
  put_in_term-Bound i k = ap (λ g. g k) (fold-Bound (ℕ → Term) (put_in_term_layer t) i)

  pub put_in_term-Free : (x : List ℕ) (k : ℕ) → put_in_term t (Free x) k ≡ Free x
  unfolding put_in_term
  put_in_term-Free x k = ap (λ g. g k) (fold-Free (ℕ → Term) (put_in_term_layer t) x)

  pub put_in_term-Apply : (f : List ℕ) (args : List Term) (k : ℕ) → put_in_term t (Apply f args) k ≡ Apply f (map (λ a. put_in_term t a k) args)
  unfolding put_in_term
  put_in_term-Apply f args k = ap (λ g. g k) (fold-Apply (ℕ → Term) (put_in_term_layer t) f args) ∙ ap (Apply f) (map-map (λ g. g k) (put_in_term t) args)

  pub put_in-Atom : (p : List ℕ) (args : List Term) (k : ℕ) → put_in t (Atom p args) k ≡ Atom p (map (λ a. put_in_term t a k) args)
  unfolding put_in
  put_in-Atom p args k = ap (λ g. g k) (fold-Atom (ℕ → Formula) (put_in_layer t) p args)

  pub put_in-Op : (o : ℕ) (args : List Formula) (k : ℕ) → put_in t (Op o args) k ≡ Op o (map (λ a. put_in t a k) args)
  unfolding put_in
  put_in-Op o args k = ap (λ g. g k) (fold-Op (ℕ → Formula) (put_in_layer t) o args) ∙ ap (Op o) (map-map (λ g. g k) (put_in t) args)

  pub put_in-Quant : (q : ℕ) (body : Formula) (k : ℕ) → put_in t (Quant q body) k ≡ Quant q (put_in t body (k + 1))
  unfolding put_in
  put_in-Quant q body k = ap (λ g. g k) (fold-Quant (ℕ → Formula) (put_in_layer t) q body)

pub ruleset put_rules = (put_for_bound-below, put_for_bound-at, put_for_bound-past, put_in_term-Bound, put_in_term-Free, put_in_term-Apply, put_in-Atom, put_in-Op, put_in-Quant)
