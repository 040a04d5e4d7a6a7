-- Closed tableaux at their roots, and what the tests of a split mean.
use Rattle.std.proofs.Common.{◌≡◌, ◌≢◌, ℕ, ◌+◌, ◌<◌, ◌≤◌, Bool, true, false, List, [], ◌∷◌, ◌++◌, map, length, drop, get_or, refl, sym, ◌∙◌, ap, subst, IsTrue}
use Rattle.std.specs.Prelude.{◌↔◌, ◌==◌, All, nat_eq}
use Rattle.std.specs.Int.{bit_at}
use Rattle.std.proofs.lemmas.Bool.{eqb-true, eq-eqb}
use Rattle.std.proofs.lemmas.List.{drop_more, drop_all, length-map}
use Rattle.std.proofs.lemmas.List.Elements.{All-map, All-weaker}
use denote.Bor.{Bor}
use Rattle.lgc_values.specs.Values.{has, values_where, mask_of, members_of}
use Rattle.lgc_values.specs.Logic.{Logic, operator_at}
use Rattle.lgc_values.proofs.ValueLaws.{values_where-alike}
use Rattle.lgc_syntax.specs.declared.formula.Term.{Term}
use Rattle.lgc_syntax.specs.declared.formula.Formula.{Formula, Atom, Op, Quant, out-Formula}
use Rattle.lgc_syntax.specs.declared.formula.Formula.TheVariants.{outs-Atom, outs-Op, outs-Quant}
use Rattle.lgc_syntax.proofs.Injective.{same_Op}
use Rattle.lgc_sequents.specs.Signed.{SignedFormula}
use Rattle.lgc_sequents.specs.Sequents.{IsSet}
use Rattle.lgc_sequents.specs.Steps.{carries}
use Rattle.lgc_sequents.proofs.Laws.{IsSet-values_where}
use Rattle.lgc_tableau.specs.declared.tableau.Tableau.{Closed, Split, out-Tableau}
use Rattle.lgc_tableau.specs.declared.tableau.Tableau.TheVariants.{outs-Closed, outs-Split}
use Rattle.lgc_tableau.specs.ClosedTableaux.{PlainTableau, PlainCase, CarriesAll, sets_of, rule_of, IsSplit, IsClosed, AreClosed, closed_by, split_on, none_left, one_more}
use Rattle.lgc_tableau_check.specs.declared.branch.Branch as branch
use Rattle.lgc_tableau_check.specs.declared.branch.Branch.{Branch}
use Rattle.lgc_tableau_check.specs.Branches.{items_of, HasSign, HaveArguments, IsExactFor, IsSplitOf}
use Rattle.lgc_tableau_check.proofs.BranchLaws.{has-where, items_of-Goal, items_of-Case}

module _ (logic : Logic) where
  -- ---- a tableau that is closed by a formula

  full_there : (branch : List SignedFormula) (t : PlainTableau) → IsClosed logic branch t → (f : Formula) → t ≡ Closed f → CarriesAll logic.size branch f
  full_there _ _ (closed_by branch g full) f is =
      let roots = sym (outs-Closed g) ∙ ap (out-Tableau SignedFormula) is ∙ outs-Closed f in
      let same : g ≡ f = cc in
      subst (CarriesAll logic.size branch) same full
  full_there _ _ (split_on branch op args sign cases split below) f is =
      let roots = sym (outs-Split (record { formula = Op op args; sign = sign }) cases) ∙ ap (out-Tableau SignedFormula) is ∙ outs-Closed f in
      cc

  -- ---- a tableau that splits a formula

  record IsSplitThere (branch : List SignedFormula) (on : SignedFormula) (cases : List PlainCase) : Type 0 where
    pub split : IsSplitOf logic branch on cases
    pub below : AreClosed logic branch cases

  split_there : (branch : List SignedFormula) (t : PlainTableau) → IsClosed logic branch t → (on : SignedFormula) (cases : List PlainCase) → t ≡ Split on cases → IsSplitThere branch on cases
  split_there _ _ (closed_by branch g full) on cases is =
      let roots = sym (outs-Closed g) ∙ ap (out-Tableau SignedFormula) is ∙ outs-Split on cases in
      cc
  split_there _ _ (split_on branch op args sign parts split below) on cases is =
      let roots = sym (outs-Split (record { formula = Op op args; sign = sign }) parts) ∙ ap (out-Tableau SignedFormula) is ∙ outs-Split on cases in
      let old : SignedFormula = record { formula = Op op args; sign = sign } in
      let same_on : old ≡ on = cc in
      let same_cases : parts ≡ cases = cc in
      let here : IsSplitOf logic branch old parts = record { op = op; args = args; is = refl; split = split } in
      record {
        split = subst (λ (x : SignedFormula). IsSplitOf logic branch x cases) same_on (subst (λ (xs : List PlainCase). IsSplitOf logic branch old xs) same_cases here);
        below = subst (AreClosed logic branch) same_cases below;
      }

  joined_split : (branch : List SignedFormula) (on : SignedFormula) (cases : List PlainCase) → IsSplitOf logic branch on cases → AreClosed logic branch cases → IsClosed logic branch (Split on cases)
  joined_split branch on cases split below =
      subst (λ (f : Formula). IsClosed logic branch (Split (record { formula = f; sign = on.sign }) cases)) (sym split.is) (split_on branch split.op split.args on.sign cases split.split below)

  -- where the test of the split says yes, the rest is left to the cases
  pub split_test : (branch : List SignedFormula) (t : PlainTableau) (on : SignedFormula) (cases seen again : List PlainCase) (a b : Bool) → t ≡ Split on cases → seen ≡ cases → again ≡ cases → (IsTrue a ↔ IsSplitOf logic branch on seen) → (IsTrue b ↔ AreClosed logic branch again) → a ≡ true → (IsTrue b ↔ IsClosed logic branch t)
  split_test branch t on cases seen again a b is same same_again of_split of_cases passes =
      let split : IsSplitOf logic branch on cases = subst (IsSplitOf logic branch on) same (of_split.0 passes) in (
        λ passed. subst (IsClosed logic branch) (sym is) (joined_split branch on cases split (subst (AreClosed logic branch) same_again (of_cases.0 passed))),
        λ closed. of_cases.1 (subst (AreClosed logic branch) (sym same_again) (split_there branch t closed on cases is).below),
      )

  -- where it says no, the tableau isn't closed
  pub split_refused : (branch : List SignedFormula) (t : PlainTableau) (on : SignedFormula) (cases seen : List PlainCase) (a : Bool) → t ≡ Split on cases → seen ≡ cases → (IsTrue a ↔ IsSplitOf logic branch on seen) → a ≡ false → (IsTrue a ↔ IsClosed logic branch t)
  split_refused branch t on cases seen a is same of_split fails = (
    λ (passed : IsTrue a). absurd (let h : true ≡ false = sym passed ∙ fails in cc),
    λ closed. of_split.1 (subst (IsSplitOf logic branch on) (sym same) (split_there branch t closed on cases is).split),
  )

  -- ---- the cases of a split

  record IsNextClosed (branch : List SignedFormula) (case : PlainCase) (cases : List PlainCase) : Type 0 where
    pub here : IsClosed logic (branch ++ case.added) case.below
    pub rest : AreClosed logic branch cases

  next_closed : (branch : List SignedFormula) (all : List PlainCase) → AreClosed logic branch all → (case : PlainCase) (cases : List PlainCase) → all ≡ case ∷ cases → IsNextClosed branch case cases
  next_closed _ _ (none_left branch) case cases is = cc
  next_closed _ _ (one_more branch x xs here rest) case cases is =
      let same : x ≡ case = cc in
      let same_rest : xs ≡ cases = cc in
      record {
        here = subst (λ (y : PlainCase). IsClosed logic (branch ++ y.added) y.below) same here;
        rest = subst (AreClosed logic branch) same_rest rest;
      }

  abbrev AreLeft : List SignedFormula → List PlainCase → ℕ → Type 0
  AreLeft branch cases i = AreClosed logic branch (drop i cases) ↔ AreClosed logic branch cases

  step : (cases : List PlainCase) (i : ℕ) (case : PlainCase) → i < length cases → case ≡ get_or cases i case → drop i cases ≡ case ∷ drop (i + 1) cases
  step cases i case lt is = drop_more cases i case lt ∙ ap (λ (x : PlainCase). x ∷ drop (i + 1) cases) (sym is)

  pub case_passed : (branch : List SignedFormula) (cases : List PlainCase) (i : ℕ) (case : PlainCase) → i < length cases → case ≡ get_or cases i case → IsClosed logic (branch ++ case.added) case.below → AreLeft branch cases i → AreLeft branch cases (i + 1)
  case_passed branch cases i case lt is here left =
      let next = step cases i case lt is in (
        λ rest. left.0 (subst (AreClosed logic branch) (sym next) (one_more branch case (drop (i + 1) cases) here rest)),
        λ all. (next_closed branch (drop i cases) (left.1 all) case (drop (i + 1) cases) next).rest,
      )

  pub case_refused : (branch : List SignedFormula) (cases : List PlainCase) (i : ℕ) (case : PlainCase) → i < length cases → case ≡ get_or cases i case → AreLeft branch cases i → AreClosed logic branch cases → IsClosed logic (branch ++ case.added) case.below
  case_refused branch cases i case lt is left all = (next_closed branch (drop i cases) (left.1 all) case (drop (i + 1) cases) (step cases i case lt is)).here

  pub cases_passed : (branch : List SignedFormula) (cases : List PlainCase) (i : ℕ) → length cases ≤ i → AreLeft branch cases i → AreClosed logic branch cases
  cases_passed branch cases i end left = left.0 (subst (AreClosed logic branch) (sym (drop_all i cases end)) (none_left branch))

  -- ---- branches

  pub at_goal : (goal : List SignedFormula) (items : Bor (List SignedFormula)) (t : PlainTableau) (b : Bool) → items.now ≡ goal → (IsTrue b ↔ IsClosed logic (items_of (branch.Goal items)) t) → (IsTrue b ↔ IsClosed logic goal t)
  at_goal goal items t b is test =
      let same : items_of (branch.Goal items) ≡ goal = items_of-Goal items ∙ is in
      (λ passed. subst (λ (xs : List SignedFormula). IsClosed logic xs t) same (test.0 passed), λ closed. test.1 (subst (λ (xs : List SignedFormula). IsClosed logic xs t) (sym same) closed))

  pub at_case : (above : Bor (Branch SignedFormula)) (items : Bor (List SignedFormula)) (case : PlainCase) (t : PlainTableau) (b : Bool) → items.now ≡ case.added → t ≡ case.below → (IsTrue b ↔ IsClosed logic (items_of (branch.Case above items)) t) → (IsTrue b ↔ IsClosed logic (items_of above.now ++ case.added) case.below)
  at_case above items case t b is same test =
      let there : items_of (branch.Case above items) ≡ items_of above.now ++ case.added = items_of-Case above items ∙ ap (λ (xs : List SignedFormula). items_of above.now ++ xs) is in (
        λ passed. subst (IsClosed logic (items_of above.now ++ case.added)) same (subst (λ (xs : List SignedFormula). IsClosed logic xs t) there (test.0 passed)),
        λ closed. test.1 (subst (λ (xs : List SignedFormula). IsClosed logic xs t) (sym there) (subst (IsClosed logic (items_of above.now ++ case.added)) (sym same) closed)),
      )

  -- ---- a formula with all values

  pub full_test : (n : ℕ) → logic.size ≡ n → (branch : List SignedFormula) (t : PlainTableau) (f : Formula) (sign : List ℕ) (b : Bool) → t ≡ Closed f → sign ≡ values_where n (carries branch f) → (IsTrue b ↔ (sign ≡ values_where n (λ _. true))) → (IsTrue b ↔ IsClosed logic branch t)
  full_test n size branch t f sign b is there test = (
    λ passed. subst (IsClosed logic branch) (sym is) (closed_by branch f (λ v lt. let below : v < n = subst (λ (k : ℕ). v < k) size lt in
        sym (has-where n (carries branch f) v below) ∙ ap (λ (s : List ℕ). has s v) (sym there ∙ test.0 passed) ∙ has-where n (λ _. true) v below)),
    λ closed. test.1 (there ∙ values_where-alike n (carries branch f) (λ _. true) (λ v lt. full_there branch t closed f is v (subst (λ (k : ℕ). v < k) (sym size) lt))),
  )

-- ---- the sign of a split

-- the values that a formula has on a branch are those of a sign
pub whole_test : (n : ℕ) (branch : List SignedFormula) (on : SignedFormula) (there : List ℕ) → IsSet n on.sign → there ≡ values_where n (carries branch on.formula) → ((there ≡ on.sign) ↔ ((v : ℕ) → v < n → has on.sign v ≡ carries branch on.formula v))
whole_test n branch on there set is = (
  λ same v lt. ap (λ (s : List ℕ). has s v) (sym same ∙ is) ∙ has-where n (carries branch on.formula) v lt,
  λ whole. is ∙ values_where-alike n (carries branch on.formula) (has on.sign) (λ v lt. sym (whole v lt)) ∙ sym set,
)

-- ---- the operator of a split

pub not_Atom : (p : List ℕ) (ts : List Term) (op : ℕ) (args : List Formula) → Atom p ts ≡ Op op args → ⊥
not_Atom p ts op args same = let roots = sym (outs-Atom p ts) ∙ ap out-Formula same ∙ outs-Op op args in cc

pub not_Quant : (q : ℕ) (body : Formula) (op : ℕ) (args : List Formula) → Quant q body ≡ Op op args → ⊥
not_Quant q body op args same = let roots = sym (outs-Quant q body) ∙ ap out-Formula same ∙ outs-Op op args in cc

module _ (logic : Logic) (branch : List SignedFormula) (on : SignedFormula) (cases : List PlainCase) where
  pub split_from : (op : ℕ) (args : List Formula) → on.formula ≡ Op op args → HasSign logic.size branch on → IsExactFor logic op args on.sign cases → IsSplitOf logic branch on cases
  split_from op args is sign exact = record {
    op = op;
    args = args;
    is = is;
    split = record {
      nonempty = sign.nonempty;
      whole = λ v lt. sign.whole v lt ∙ ap (λ (f : Formula). carries branch f v) is;
      arity = exact.arity;
      formulas = exact.formulas;
      fits = record {
        known = exact.known;
        formed = All-map (λ (sets : List (List ℕ)). length sets ≡ (operator_at logic op).arity) sets_of cases
            (All-weaker (λ (case : PlainCase). map (λ item. item.formula) case.added ≡ args) (λ (case : PlainCase). length (sets_of case) ≡ (operator_at logic op).arity) (λ case same. widths case same) cases exact.formulas);
      };
      exact = exact.exact;
    };
  } where
    widths : (case : PlainCase) → map (λ item. item.formula) case.added ≡ args → length (sets_of case) ≡ (operator_at logic op).arity
    widths case same = length-map case.added (λ (x : SignedFormula). x.sign) ∙ sym (length-map case.added (λ (x : SignedFormula). x.formula)) ∙ ap length same ∙ exact.arity

  pub exact_of_split : (op : ℕ) (args : List Formula) → on.formula ≡ Op op args → IsSplitOf logic branch on cases → IsExactFor logic op args on.sign cases
  exact_of_split op args is s =
      let same = same_Op (sym s.is ∙ is) in
      subst (λ (o : ℕ). IsExactFor logic o args on.sign cases) same.0 (subst (λ (fs : List Formula). IsExactFor logic s.op fs on.sign cases) same.1
      (record { known = s.split.fits.known; arity = s.split.arity; formulas = s.split.formulas; exact = s.split.exact }))

-- the masks tell whether the sign of a formula is whole
pub sign_test : (n : ℕ) (branch : List SignedFormula) (x on : SignedFormula) (there : List ℕ) (a b : ℕ) → x ≡ on → there ≡ values_where n (carries branch x.formula) → there ≡ members_of n a → a ≡ mask_of there → x.sign ≡ members_of n b → b ≡ mask_of x.sign → x.sign ≢ [] → (IsTrue (nat_eq a b) ↔ HasSign n branch on)
sign_test n branch x on there a b same is is_a a_is is_b b_is nonempty =
    let set : IsSet n x.sign = subst (IsSet n) (sym is_b) (IsSet-values_where n (λ v. bit_at b v == 1)) in
    let test = whole_test n branch x there set is in (
      λ equal. subst (HasSign n branch) same (record { nonempty = nonempty; whole = test.0 (is_a ∙ ap (members_of n) (eqb-true a b equal) ∙ sym is_b) }),
      λ sign. let here : HasSign n branch x = subst (HasSign n branch) (sym same) sign in eq-eqb a b (a_is ∙ ap mask_of (test.1 here.whole) ∙ sym b_is),
    )

-- where the sign is whole, it is left to the operator
pub left_to_operator : (logic : Logic) (n : ℕ) → logic.size ≡ n → (branch : List SignedFormula) (x on : SignedFormula) (cases : List PlainCase) (op : ℕ) (args seen : List Formula) (b : Bool) → x ≡ on → x.formula ≡ Op op args → seen ≡ args → HasSign n branch on → (IsTrue b ↔ IsExactFor logic op seen x.sign cases) → (IsTrue b ↔ IsSplitOf logic branch on cases)
left_to_operator logic n size branch x on cases op args seen b same is same_args sign test =
    let here : HasSign logic.size branch x = subst (HasSign logic.size branch) (sym same) (subst (λ (k : ℕ). HasSign k branch on) (sym size) sign) in (
      λ passed. subst (λ (y : SignedFormula). IsSplitOf logic branch y cases) same (split_from logic branch x cases op args is here (subst (λ (fs : List Formula). IsExactFor logic op fs x.sign cases) same_args (test.0 passed))),
      λ split. test.1 (subst (λ (fs : List Formula). IsExactFor logic op fs x.sign cases) (sym same_args) (exact_of_split logic branch x cases op args is (subst (λ (y : SignedFormula). IsSplitOf logic branch y cases) (sym same) split))),
    )
