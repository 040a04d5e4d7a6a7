-- The variables of each kind of term and of formula.
use Rattle.std.proofs.Common.{ℕ, ◌≡◌, Bool, true, false, List, bytes_eq, ◌∙◌}
use Rattle.std.specs.List.{list_any, list_all}
use Rattle.std.proofs.lemmas.List.Folds.{list_all-map}
use Rattle.lgc_syntax.specs.declared.formula.Term.{Term, Bound, Free, Apply}
use Rattle.lgc_syntax.specs.declared.formula.Formula.{Formula, Atom, Op, Quant}
use Rattle.lgc_syntax.specs.Variables.{occurs, occurs_layer, free, free_layer, has_no_bound, unbound_layer}
use Rattle.lgc_syntax.proofs.Folds.{fold-Bound, fold-Free, fold-Apply, fold-Atom, fold-Op, fold-Quant}
use Rattle.lgc_syntax.proofs.Lists.{list_any-map}

pub occurs-Bound : (x : List ℕ) (i : ℕ) → occurs x (Bound i) ≡ false
unfolding occurs
occurs-Bound x i = fold-Bound Bool (occurs_layer x) i

pub occurs-Free : (x y : List ℕ) → occurs x (Free y) ≡ bytes_eq x y
unfolding occurs
occurs-Free x y = fold-Free Bool (occurs_layer x) y

pub occurs-Apply : (x f : List ℕ) (args : List Term) → occurs x (Apply f args) ≡ list_any (occurs x) args
unfolding occurs
occurs-Apply x f args = fold-Apply Bool (occurs_layer x) f args ∙ list_any-map (occurs x) args

pub free-Atom : (x p : List ℕ) (args : List Term) → free x (Atom p args) ≡ list_any (occurs x) args
unfolding free
free-Atom x p args = fold-Atom Bool (free_layer x) p args

pub free-Op : (x : List ℕ) (o : ℕ) (args : List Formula) → free x (Op o args) ≡ list_any (free x) args
unfolding free
free-Op x o args = fold-Op Bool (free_layer x) o args ∙ list_any-map (free x) args

pub free-Quant : (x : List ℕ) (q : ℕ) (body : Formula) → free x (Quant q body) ≡ free x body
unfolding free
free-Quant x q body = fold-Quant Bool (free_layer x) q body

pub has_no_bound-Bound : (i : ℕ) → has_no_bound (Bound i) ≡ false
unfolding has_no_bound
has_no_bound-Bound i = fold-Bound Bool unbound_layer i

pub has_no_bound-Free : (x : List ℕ) → has_no_bound (Free x) ≡ true
unfolding has_no_bound
has_no_bound-Free x = fold-Free Bool unbound_layer x

pub has_no_bound-Apply : (f : List ℕ) (args : List Term) → has_no_bound (Apply f args) ≡ list_all has_no_bound args
unfolding has_no_bound
has_no_bound-Apply f args = fold-Apply Bool unbound_layer f args ∙ list_all-map (λ b. b) has_no_bound args

pub ruleset free_rules = (occurs-Bound, occurs-Free, occurs-Apply, free-Atom, free-Op, free-Quant)

pub ruleset unbound_rules = (has_no_bound-Bound, has_no_bound-Free, has_no_bound-Apply)
