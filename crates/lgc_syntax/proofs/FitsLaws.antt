-- When each kind of term and of formula is one of a logic.
use Rattle.std.proofs.Common.{ℕ, ◌≡◌, ◌+◌, ◌&&◌, Bool, true, List, length, map, ◌∙◌, ap}
use Rattle.std.specs.Prelude.{◌==◌, nat_lt}
use Rattle.std.specs.List.{list_all}
use Rattle.std.proofs.lemmas.List.{length-map}
use Rattle.std.proofs.lemmas.List.Folds.{list_all-map}
use Rattle.lgc_values.specs.Logic.{Logic, operator_at}
use Rattle.lgc_syntax.specs.declared.formula.Term.{Term, Bound, Free, Apply}
use Rattle.lgc_syntax.specs.declared.formula.Formula.{Formula, Atom, Op, Quant}
use Rattle.lgc_syntax.specs.Fits.{term_fits, term_fits_layer, fits_within, fits_layer}
use Rattle.lgc_syntax.proofs.Folds.{fold-Bound, fold-Free, fold-Apply, fold-Atom, fold-Op, fold-Quant}

pub term_fits-Bound : (i around : ℕ) → term_fits (Bound i) around ≡ nat_lt i around
unfolding term_fits
term_fits-Bound i around = ap (λ g. g around) (fold-Bound (ℕ → Bool) term_fits_layer i)

pub term_fits-Free : (x : List ℕ) (around : ℕ) → term_fits (Free x) around ≡ true
unfolding term_fits
term_fits-Free x around = ap (λ g. g around) (fold-Free (ℕ → Bool) term_fits_layer x)

pub term_fits-Apply : (f : List ℕ) (args : List Term) (around : ℕ) → term_fits (Apply f args) around ≡ list_all (λ a. term_fits a around) args
unfolding term_fits
term_fits-Apply f args around = ap (λ g. g around) (fold-Apply (ℕ → Bool) term_fits_layer f args) ∙ list_all-map (λ g. g around) term_fits args

module _ (logic : Logic) where
  pub fits_within-Atom : (p : List ℕ) (args : List Term) (around : ℕ) → fits_within logic (Atom p args) around ≡ list_all (λ a. term_fits a around) args
  unfolding fits_within
  fits_within-Atom p args around = ap (λ g. g around) (fold-Atom (ℕ → Bool) (fits_layer logic) p args)

  pub fits_within-Op : (o : ℕ) (args : List Formula) (around : ℕ) → fits_within logic (Op o args) around ≡ (nat_lt o (length logic.operators) && ((length args == (operator_at logic o).arity) && list_all (λ a. fits_within logic a around) args))
  unfolding fits_within
  fits_within-Op o args around =
      ap (λ g. g around) (fold-Op (ℕ → Bool) (fits_layer logic) o args)
      ∙ ap (λ n. nat_lt o (length logic.operators) && ((n == (operator_at logic o).arity) && list_all (λ g. g around) (map (fits_within logic) args))) (length-map args (fits_within logic))
      ∙ ap (λ all. nat_lt o (length logic.operators) && ((length args == (operator_at logic o).arity) && all)) (list_all-map (λ g. g around) (fits_within logic) args)

  pub fits_within-Quant : (q : ℕ) (body : Formula) (around : ℕ) → fits_within logic (Quant q body) around ≡ (nat_lt q (length logic.quantifiers) && fits_within logic body (around + 1))
  unfolding fits_within
  fits_within-Quant q body around = ap (λ g. g around) (fold-Quant (ℕ → Bool) (fits_layer logic) q body)

pub ruleset fit_rules = (term_fits-Bound, term_fits-Free, term_fits-Apply, fits_within-Atom, fits_within-Op, fits_within-Quant)
