-- The names in each kind of term and of formula; and terms without bound variables, wherever they stand.
use Rattle.std.proofs.Common.{ℕ, ◌≡◌, ◌&&◌, Bool, true, false, List, sym, ap, ◌∙◌}
use Rattle.std.specs.List.{list_all, AllByRecursion}
use Rattle.std.proofs.lemmas.List.Folds.{list_all-map}
use Rattle.lgc_values.specs.Logic.{Logic}
use Rattle.lgc_syntax.specs.declared.formula.Term.{Term, Bound, Free, Apply}
use Rattle.lgc_syntax.specs.declared.formula.Formula.{Formula, Atom, Op, Quant}
use Rattle.lgc_syntax.specs.Fits.{term_fits}
use Rattle.lgc_syntax.specs.Variables.{has_no_bound}
use Rattle.lgc_syntax.proofs.Folds.{fold-Bound, fold-Free, fold-Apply, fold-Atom, fold-Op, fold-Quant}
use Rattle.lgc_syntax.proofs.Induction.{term_induction}
use Rattle.lgc_syntax.proofs.Lists.{each_passing}
use Rattle.lgc_syntax.proofs.FitsLaws.{term_fits-Free, term_fits-Apply}
use Rattle.lgc_syntax.proofs.VariableLaws.{has_no_bound-Bound, has_no_bound-Apply}
use Rattle.lgc_formulas.proofs.TermsKept.{all_pass}
use Rattle.lgc_formulas.specs.Writable.{can_name_variable, can_name_function, can_name_predicate, has_readable_term_names, term_names_layer, has_readable_names, names_layer}

pub names-Bound : (limited : Bool) (i : ℕ) → has_readable_term_names limited (Bound i) ≡ true
unfolding has_readable_term_names
names-Bound limited i = fold-Bound Bool (term_names_layer limited) i

pub names-Free : (limited : Bool) (x : List ℕ) → has_readable_term_names limited (Free x) ≡ can_name_variable limited x
unfolding has_readable_term_names
names-Free limited x = fold-Free Bool (term_names_layer limited) x

pub names-Apply : (limited : Bool) (f : List ℕ) (args : List Term) → has_readable_term_names limited (Apply f args) ≡ (can_name_function limited f && list_all (has_readable_term_names limited) args)
unfolding has_readable_term_names
names-Apply limited f args = fold-Apply Bool (term_names_layer limited) f args ∙ ap (λ all. can_name_function limited f && all) (list_all-map (λ b. b) (has_readable_term_names limited) args)

module _ (logic : Logic) (limited : Bool) where
  pub names-Atom : (p : List ℕ) (args : List Term) → has_readable_names logic limited (Atom p args) ≡ (can_name_predicate logic limited p && list_all (has_readable_term_names limited) args)
  unfolding has_readable_names
  names-Atom p args = fold-Atom Bool (names_layer logic limited) p args

  pub names-Op : (o : ℕ) (args : List Formula) → has_readable_names logic limited (Op o args) ≡ list_all (has_readable_names logic limited) args
  unfolding has_readable_names
  names-Op o args = fold-Op Bool (names_layer logic limited) o args ∙ list_all-map (λ b. b) (has_readable_names logic limited) args

  pub names-Quant : (q : ℕ) (body : Formula) → has_readable_names logic limited (Quant q body) ≡ has_readable_names logic limited body
  unfolding has_readable_names
  names-Quant q body = fold-Quant Bool (names_layer logic limited) q body

pub ruleset term_name_rules = (names-Bound, names-Free, names-Apply)

pub ruleset name_rules = (names-Atom, names-Op, names-Quant)

-- a term without bound variables, so many quantifiers around it
pub closed_fits : (around : ℕ) (t : Term) → has_no_bound t ≡ true → term_fits t around ≡ true
closed_fits around = term_induction (λ t. has_no_bound t ≡ true → term_fits t around ≡ true) bound (λ x closed. term_fits-Free x around) apply
  where
    bound : (i : ℕ) → has_no_bound (Bound i) ≡ true → term_fits (Bound i) around ≡ true
    bound i closed = let open_one : has_no_bound (Bound i) ≡ false = has_no_bound-Bound i in absurd cc

    apply : (f : List ℕ) (args : List Term) → AllByRecursion (λ t. has_no_bound t ≡ true → term_fits t around ≡ true) args → has_no_bound (Apply f args) ≡ true → term_fits (Apply f args) around ≡ true
    apply f args each closed =
        term_fits-Apply f args around
        ∙ all_pass (λ t. term_fits t around) args (each_passing has_no_bound (λ t. term_fits t around ≡ true) args each (sym (has_no_bound-Apply f args) ∙ closed))
