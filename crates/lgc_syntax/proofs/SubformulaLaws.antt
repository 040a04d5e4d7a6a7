-- Subformulas of subformulas, and what subformulas have of the formula.
use Rattle.std.proofs.Common.{ℕ, zero, suc, ◌≡◌, ◌<◌, ◌&&◌, true, false, List, [], ◌∷◌, length, get_or, refl, sym, ap, ◌∙◌, arith}
use Rattle.std.specs.Prelude.{◌==◌, nat_lt}
use Rattle.std.specs.List.{Any, Contains, list_all, list_any}
use Rattle.std.proofs.lemmas.Bool.{and_parts, or_parts, eqb-true, ltb-true}
use Rattle.lgc_values.specs.Logic.{Logic, operator_at}
use Rattle.lgc_syntax.specs.declared.formula.Formula.{Formula, Op, Quant}
use Rattle.lgc_syntax.specs.Sizes.{has_quantifier}
use Rattle.lgc_syntax.specs.Fits.{Fits, fits_within}
use Rattle.lgc_syntax.specs.Subformulas.{IsSubformula, itself, of_argument, of_body}
use Rattle.lgc_syntax.proofs.FitsLaws.{fits_within-Op}
use Rattle.lgc_syntax.proofs.SizeLaws.{has_quantifier-Op, has_quantifier-Quant}

-- a subformula of a subformula is one
pub subformula_of_subformula : (f g h : Formula) → IsSubformula f g → IsSubformula g h → IsSubformula f h
subformula_of_subformula f g _ part itself = part
subformula_of_subformula f g _ part (of_argument op args a among later) = of_argument op args a among (subformula_of_subformula f g a part later)
subformula_of_subformula f g _ part (of_body q body later) = of_body q body (subformula_of_subformula f g body part later)

-- one of an argument is one of the compound
pub subformula_of_some : (op : ℕ) (args : List Formula) (f : Formula) → Any (IsSubformula f) args → IsSubformula f (Op op args)
subformula_of_some op args f some = of_argument op args some.1 (some.0, some.2, some.3) some.4

-- ---- quantifiers

pub arguments_propositional : (f : Formula) (op : ℕ) (args items : List Formula) → f ≡ Op op args → items ≡ args → has_quantifier f ≡ false → list_any has_quantifier items ≡ false
arguments_propositional f op args items is same none = ap (list_any has_quantifier) same ∙ sym (has_quantifier-Op op args) ∙ ap has_quantifier (sym is) ∙ none

pub quantified : (f : Formula) (q : ℕ) (body : Formula) → f ≡ Quant q body → has_quantifier f ≡ false → ⊥
quantified f q body is none = let wrong : true ≡ false = sym (has_quantifier-Quant q body) ∙ ap has_quantifier (sym is) ∙ none in cc

pub item_propositional : (fs : List Formula) (i : ℕ) (f : Formula) → i < length fs → f ≡ get_or fs i f → list_any has_quantifier fs ≡ false → has_quantifier f ≡ false
item_propositional [] i f lt read none = absurd (omega arith)
item_propositional (g ∷ fs) zero f lt read none = ap has_quantifier read ∙ (or_parts (has_quantifier g) (list_any has_quantifier fs) none).0
item_propositional (g ∷ fs) (suc i) f lt read none = item_propositional fs i f (omega (arith, lt)) read (or_parts (has_quantifier g) (list_any has_quantifier fs) none).1

-- a subformula of a formula without quantifiers has none
pub propositional_subformula : (f g : Formula) → IsSubformula f g → has_quantifier g ≡ false → has_quantifier f ≡ false
propositional_subformula f _ itself none = none
propositional_subformula f _ (of_argument op args a among part) none =
    propositional_subformula f a part (item_propositional args among.0 a among.1 (sym among.2) (arguments_propositional (Op op args) op args args refl refl none))
propositional_subformula f _ (of_body q body part) none = absurd (quantified (Quant q body) q body refl none)

-- ---- formulas of a logic

-- the operator and the arguments of a formula of the logic
pub op_fits : (logic : Logic) (op : ℕ) (fs : List Formula) → Fits logic (Op op fs) → (op < length logic.operators) × (length fs ≡ (operator_at logic op).arity) × (list_all (λ f. fits_within logic f 0) fs ≡ true)
op_fits logic op fs fits =
    let known = nat_lt op (length logic.operators) in
    let long = length fs == (operator_at logic op).arity in
    let all = list_all (λ f. fits_within logic f 0) fs in
    let parts = and_parts known (long && all) (sym (fits_within-Op logic op fs 0) ∙ fits) in
    let more = and_parts long all parts.1 in
    (ltb-true op (length logic.operators) parts.0, eqb-true (length fs) (operator_at logic op).arity more.0, more.1)

item_fits : (logic : Logic) (fs : List Formula) (i : ℕ) (f : Formula) → i < length fs → f ≡ get_or fs i f → list_all (λ f. fits_within logic f 0) fs ≡ true → Fits logic f
item_fits logic [] i f lt read all = absurd (omega (arith, lt))
item_fits logic (g ∷ fs) zero f lt read all = ap (λ f. fits_within logic f 0) read ∙ (and_parts (fits_within logic g 0) (list_all (λ f. fits_within logic f 0) fs) all).0
item_fits logic (g ∷ fs) (suc i) f lt read all = item_fits logic fs i f (omega (arith, lt)) read (and_parts (fits_within logic g 0) (list_all (λ f. fits_within logic f 0) fs) all).1

-- and it is of each logic of which the formula is
pub fits_subformula : (logic : Logic) (f g : Formula) → IsSubformula f g → has_quantifier g ≡ false → Fits logic g → Fits logic f
fits_subformula logic f _ itself none fits = fits
fits_subformula logic f _ (of_argument op args a among part) none fits =
    fits_subformula logic f a part (item_propositional args among.0 a among.1 (sym among.2) (arguments_propositional (Op op args) op args args refl refl none))
    (item_fits logic args among.0 a among.1 (sym among.2) (op_fits logic op args fits).2)
fits_subformula logic f _ (of_body q body part) none fits = absurd (quantified (Quant q body) q body refl none)
