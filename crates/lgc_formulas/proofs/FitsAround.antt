-- What fits where some quantifiers stand around it, fits where more do; and a term that fits where none does has no bound variable.
use Rattle.std.proofs.Common.{◌≡◌, ◌≤◌, ◌+◌, ℕ, Bool, true, List, length, sym, ◌∙◌, arith}
use Rattle.std.specs.Prelude.{◌==◌, nat_lt}
use Rattle.std.specs.List.{AllByRecursion, list_all}
use Rattle.std.proofs.lemmas.Bool.{lt-ltb, ltb-true, and_parts}
use Rattle.lgc_values.specs.Logic.{Logic, operator_at}
use Rattle.lgc_syntax.specs.declared.formula.Term.{Term}
use Rattle.lgc_syntax.specs.declared.formula.Formula.{Formula, Atom, Op, Quant}
use Rattle.lgc_syntax.specs.Fits.{term_fits, fits_within}
use Rattle.lgc_syntax.proofs.FitsLaws.{term_fits-Bound, term_fits-Free, term_fits-Apply, fits_within-Atom, fits_within-Op, fits_within-Quant}
use Rattle.lgc_syntax.specs.Variables.{has_no_bound}
use Rattle.lgc_syntax.proofs.VariableLaws.{has_no_bound-Free, has_no_bound-Apply}
use Rattle.lgc_syntax.proofs.Induction.{term_induction, formula_induction}
use Rattle.lgc_syntax.proofs.Lists.{each_from, each_always, each_passing}
use Rattle.lgc_formulas.proofs.TermsKept.{all_pass}

-- where one test of each item follows from another, the test of all does
all_from : {X : Type 0} (p q : X → Bool) (xs : List X) → AllByRecursion (λ x. p x ≡ true → q x ≡ true) xs → list_all p xs ≡ true → list_all q xs ≡ true
all_from p q xs each all = all_pass q xs (each_passing p (λ x. q x ≡ true) xs each all)

abbrev TermFitsMore : Term → Type 0
TermFitsMore t = (j k : ℕ) → j ≤ k → term_fits t j ≡ true → term_fits t k ≡ true

term_fits_more : (t : Term) → TermFitsMore t
term_fits_more = term_induction TermFitsMore
    (λ i j k le h. let below = ltb-true i j (sym (term_fits-Bound i j) ∙ h) in term_fits-Bound i k ∙ lt-ltb i k (omega arith))
    (λ x j k le h. term_fits-Free x k)
    (λ f args each j k le h. term_fits-Apply f args k ∙ all_from (λ t. term_fits t j) (λ t. term_fits t k) args (each_from TermFitsMore (λ t. term_fits t j ≡ true → term_fits t k ≡ true) args (λ t more. more j k le) each) (sym (term_fits-Apply f args j) ∙ h))

-- a term with no quantifier around it
pub fits_closed : (t : Term) → term_fits t 0 ≡ true → has_no_bound t ≡ true
fits_closed = term_induction (λ t. term_fits t 0 ≡ true → has_no_bound t ≡ true)
    (λ i h. let below = ltb-true i 0 (sym (term_fits-Bound i 0) ∙ h) in absurd (omega (arith, below)))
    (λ x h. has_no_bound-Free x)
    (λ f args each h. has_no_bound-Apply f args ∙ all_from (λ t. term_fits t 0) has_no_bound args each (sym (term_fits-Apply f args 0) ∙ h))

module _ (logic : Logic) where
  abbrev FitsMore : Formula → Type 0
  FitsMore f = (j k : ℕ) → j ≤ k → fits_within logic f j ≡ true → fits_within logic f k ≡ true

  pub fits_more : (f : Formula) → FitsMore f
  fits_more = formula_induction FitsMore atom op quant
    where
      atom : (p : List ℕ) (args : List Term) → FitsMore (Atom p args)
      atom p args j k le h =
          let each : AllByRecursion (λ t. term_fits t j ≡ true → term_fits t k ≡ true) args = each_always (λ t. term_fits t j ≡ true → term_fits t k ≡ true) args (λ t. term_fits_more t j k le) in
          fits_within-Atom logic p args k ∙ all_from (λ t. term_fits t j) (λ t. term_fits t k) args each (sym (fits_within-Atom logic p args j) ∙ h)

      op : (o : ℕ) (args : List Formula) → AllByRecursion FitsMore args → FitsMore (Op o args)
      op o args each j k le h =
          let (known, rest) = and_parts (nat_lt o (length logic.operators)) _ (sym (fits_within-Op logic o args j) ∙ h) in
          let (long, all) = and_parts (length args == (operator_at logic o).arity) _ rest in
          fits_within-Op logic o args k ∙ rw (known, long) (all_from (λ f. fits_within logic f j) (λ f. fits_within logic f k) args (each_from FitsMore (λ f. fits_within logic f j ≡ true → fits_within logic f k ≡ true) args (λ f more. more j k le) each) all)

      quant : (q : ℕ) (body : Formula) → FitsMore body → FitsMore (Quant q body)
      quant q body more j k le h =
          let (known, inside) = and_parts (nat_lt q (length logic.quantifiers)) _ (sym (fits_within-Quant logic q body j) ∙ h) in
          fits_within-Quant logic q body k ∙ rw known (more (j + 1) (k + 1) (omega arith) inside)
