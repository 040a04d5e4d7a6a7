-- A formula without quantifiers takes its value by the operators of the logic alone.
use Rattle.std.proofs.Common.{◌≡◌, ℕ, ◌&&◌, ◌==◌, true, false, List, [], ◌∷◌, length, sym, ◌∙◌, ap}
use Rattle.std.specs.Prelude.{nat_lt}
use Rattle.std.specs.List.{AllByRecursion, list_all, list_any}
use Rattle.std.proofs.lemmas.Bool.{and_parts, or_parts, and_from, both_ways}
use Rattle.lgc_values.specs.Logic.{Logic, operator_at}
use Rattle.lgc_syntax.specs.declared.formula.Formula.{Formula, Quant}
use Rattle.lgc_syntax.specs.Fits.{fits_within}
use Rattle.lgc_syntax.specs.Sizes.{has_quantifier}
use Rattle.lgc_syntax.specs.Values.{operation, value}
use Rattle.lgc_syntax.proofs.Induction.{formula_induction}
use Rattle.lgc_syntax.proofs.Lists.{map_each}
use Rattle.lgc_syntax.proofs.FitsLaws.{fits_within-Atom, fits_within-Op}
use Rattle.lgc_syntax.proofs.SizeLaws.{has_quantifier-Op, has_quantifier-Quant}
use Rattle.lgc_syntax.proofs.ValueLaws.{value-Atom, value-Op, value-Quant}
use Rattle.lgc_meaning.specs.Operators.{with_operators}

module _ (logic : Logic) where
  abbrev bare : Logic
  bare = with_operators logic.size logic.operators

  -- the value of a formula
  pub value-with_operators : (v : Formula → ℕ) (f : Formula) → value bare v f ≡ value logic v f
  value-with_operators v = formula_induction (λ f. value bare v f ≡ value logic v f)
      (λ p args. value-Atom bare v p args ∙ sym (value-Atom logic v p args))
      (λ o args each. value-Op bare v o args ∙ ap (operation logic o) (map_each (value bare v) (value logic v) args each) ∙ sym (value-Op logic v o args))
      (λ q body _. value-Quant bare v q body ∙ sym (value-Quant logic v q body))

  abbrev FitsBare : Formula → Type 0
  FitsBare f = fits_within logic f 0 ≡ true → has_quantifier f ≡ false → fits_within bare f 0 ≡ true

  all_fit : (args : List Formula) → AllByRecursion FitsBare args → list_all (λ f. fits_within logic f 0) args ≡ true → list_any has_quantifier args ≡ false → list_all (λ f. fits_within bare f 0) args ≡ true
  all_fit [] each all none = all
  all_fit (f ∷ args) each all none =
      let fits = and_parts (fits_within logic f 0) (list_all (λ f. fits_within logic f 0) args) all in
      let plain = or_parts (has_quantifier f) (list_any has_quantifier args) none in
      and_from (fits_within bare f 0) (list_all (λ f. fits_within bare f 0) args) (each.0 fits.0 plain.0) (all_fit args each.1 fits.1 plain.1)

  -- a formula of the logic
  pub fits-with_operators : (f : Formula) → FitsBare f
  fits-with_operators = formula_induction FitsBare
      (λ p args fits plain. fits_within-Atom bare p args 0 ∙ sym (fits_within-Atom logic p args 0) ∙ fits)
      (λ o args each fits plain.
      let known = nat_lt o (length logic.operators) in
      let wide = length args == (operator_at logic o).arity in
      let parts = and_parts known (wide && list_all (λ f. fits_within logic f 0) args) (sym (fits_within-Op logic o args 0) ∙ fits) in
      let rest = and_parts wide (list_all (λ f. fits_within logic f 0) args) parts.1 in
      fits_within-Op bare o args 0
      ∙ and_from known (wide && list_all (λ f. fits_within bare f 0) args) parts.0
      (and_from wide (list_all (λ f. fits_within bare f 0) args) rest.0 (all_fit args each rest.1 (sym (has_quantifier-Op o args) ∙ plain))))
      (λ q body _ fits plain. absurd (both_ways (has_quantifier (Quant q body)) plain (has_quantifier-Quant q body)))

pub ruleset operator_rules = (value-with_operators, fits-with_operators)
