-- Each formula of a tableau that is made for a goal is a subformula of one of the goal's.
use Rattle.std.proofs.Common.{◌≡◌, ℕ, ◌<◌, ◌≤◌, List, [], ◌∷◌, ◌++◌, map, get_or, refl, sym, ◌∙◌, ap, subst, arith}
use Rattle.std.specs.List.{All, Any, flat_map}
use Rattle.std.proofs.lemmas.List.{get_or_default}
use Rattle.std.proofs.lemmas.List.Elements.{All-nil, All-cons, All-head, All-tail, All-append}
use Rattle.std.proofs.lemmas.Option.{slice_get_within, get_or_from_slice_get}
use Rattle.lgc_values.specs.Logic.{Logic}
use Rattle.lgc_clauses.specs.Rules.{OperatorRule}
use Rattle.lgc_syntax.specs.declared.formula.Formula.{Formula, Op}
use Rattle.lgc_syntax.specs.Sizes.{depth}
use Rattle.lgc_syntax.specs.Subformulas.{IsSubformula, itself, of_argument, of_body}
use Rattle.lgc_syntax.proofs.Injective.{same_Op}
use Rattle.lgc_syntax.proofs.SizeLaws.{depth-Op, depth-Quant, at-le-greatest}
use Rattle.lgc_syntax.proofs.SubformulaLaws.{subformula_of_subformula}
use Rattle.lgc_sequents.specs.Signed.{SignedFormula}
use Rattle.lgc_tableau.specs.declared.tableau.Tableau.{Split, out-Tableau}
use Rattle.lgc_tableau.specs.declared.tableau.Tableau.TheVariants.{outs-Closed, outs-Split}
use Rattle.lgc_tableau.specs.ClosedTableaux.{PlainTableau, PlainCase, IsClosed, AreClosed, closed_by, split_on, none_left, one_more}
use Rattle.lgc_tableau.specs.OrderlyTableaux.{IsOrderly, AreOrderly, orderly_end, orderly_split, orderly_none, orderly_more}
use Rattle.lgc_report.proofs.ReportLaws.{All-of_map}
use Rattle.lgc_tableau_text.specs.TableauText.{formulas_of, formulas_in}
use Rattle.lgc_tableau_text.proofs.TableauLaws.{formulas-Closed, formulas-Split}

-- ---- depths

-- a subformula isn't deeper
pub subformula_depth : (f g : Formula) → IsSubformula f g → depth f ≤ depth g
subformula_depth f _ itself = omega arith
subformula_depth f _ (of_argument op args a among part) =
    let inner : depth f ≤ depth a = subformula_depth f a part in
    let there : depth (get_or args among.0 a) ≡ depth a = ap depth among.2 in
    omega (arith, inner, there, at-le-greatest depth args among.0 a among.1, depth-Op op args)
subformula_depth f _ (of_body q body part) = omega (arith, subformula_depth f body part, depth-Quant q body)

-- ---- parts of a goal

module _ (goal : List SignedFormula) where
  abbrev pub Part : Formula → Type 0
  Part f = Any (λ item. IsSubformula f item.formula) goal

  part_of_part : (f g : Formula) → IsSubformula f g → Part g → Part f
  part_of_part f g inner part = (part.0, part.1, part.2, part.3, subformula_of_subformula f g part.1.formula inner part.4)

  each_argument : (op : ℕ) (args : List Formula) → Part (Op op args) → All Part args
  each_argument op args part i d lt = let a = get_or args i d in part_of_part a (Op op args) (of_argument op args a (i, lt, get_or_default args i a d lt) itself) part

  -- the formulas of the goal are parts
  pub own_parts : All (λ item. Part item.formula) goal
  own_parts i d lt = let item = get_or goal i d in (i, item, lt, get_or_default goal i item d lt, itself)

  -- a formula that is less deep than a bound, as those of the goal are
  pub part_shallow : (most : ℕ) → All (λ item. depth item.formula < most) goal → (f : Formula) → Part f → depth f < most
  part_shallow most shallow f part =
      let (k, item, lt, is, sub) = part in
      let there : depth item.formula < most = subst (λ (x : SignedFormula). depth x.formula < most) is (shallow k item lt) in
      omega (arith, there, subformula_depth f item.formula sub)

  module _ (logic : Logic) (rules : List OperatorRule) where
    record IsSplitThere (branch : List SignedFormula) (args : List Formula) (cases : List PlainCase) : Type 0 where
      pub formulas : All (λ case. map (λ item. item.formula) case.added ≡ args) cases
      pub below : AreClosed logic branch cases

    split_there : (branch : List SignedFormula) (t : PlainTableau) → IsClosed logic branch t → (op : ℕ) (args : List Formula) (sign : List ℕ) (cases : List PlainCase) → t ≡ Split (record { formula = Op op args; sign = sign }) cases → IsSplitThere branch args cases
    split_there _ _ (closed_by branch f full) op args sign cases is =
        let roots = sym (outs-Closed f) ∙ ap (out-Tableau SignedFormula) is ∙ outs-Split (record { formula = Op op args; sign = sign }) cases in
        cc
    split_there _ _ (split_on branch o fs s parts split below) op args sign cases is =
        let old : SignedFormula = record { formula = Op o fs; sign = s } in
        let new : SignedFormula = record { formula = Op op args; sign = sign } in
        let roots = sym (outs-Split old parts) ∙ ap (out-Tableau SignedFormula) is ∙ outs-Split new cases in
        let same : old ≡ new = cc in
        let same_args : fs ≡ args = (same_Op (ap (λ (x : SignedFormula). x.formula) same)).1 in
        let same_cases : parts ≡ cases = cc in
        record {
          formulas = subst (λ (xs : List PlainCase). All (λ case. map (λ item. item.formula) case.added ≡ args) xs) same_cases (subst (λ (gs : List Formula). All (λ case. map (λ item. item.formula) case.added ≡ gs) parts) same_args split.formulas);
          below = subst (AreClosed logic branch) same_cases below;
        }

    next_closed : (branch : List SignedFormula) (all : List PlainCase) → AreClosed logic branch all → (case : PlainCase) (cases : List PlainCase) → all ≡ case ∷ cases → IsClosed logic (branch ++ case.added) case.below × AreClosed logic branch cases
    next_closed _ _ (none_left branch) case cases is = cc
    next_closed _ _ (one_more branch x xs here rest) case cases is =
        let same : x ≡ case = cc in
        let same_rest : xs ≡ cases = cc in
        (subst (λ (y : PlainCase). IsClosed logic (branch ++ y.added) y.below) same here, subst (AreClosed logic branch) same_rest rest)

    abbrev AreParts : List SignedFormula → Type 0
    AreParts items = All (λ item. Part item.formula) items

    -- what a case adds are the arguments
    added_parts : (args : List Formula) (case : PlainCase) → map (λ item. item.formula) case.added ≡ args → All Part args → AreParts case.added
    added_parts args case same each = All-of_map Part (λ (item : SignedFormula). item.formula) case.added (subst (All Part) (sym same) each)

    mutual
      pub parts : (branch : List SignedFormula) (above : List Formula) (t : PlainTableau) → IsOrderly logic rules goal branch above t → IsClosed logic branch t → AreParts branch → All Part (formulas_of t)
      parts _ _ _ (orderly_end branch above f first) closed each =
          let there : Part first.item.formula = subst (λ (x : SignedFormula). Part x.formula) (get_or_from_slice_get branch first.at first.item first.item first.is) (each first.at first.item (slice_get_within branch first.at first.item first.is)) in
          subst (All Part) (sym (formulas-Closed f)) (All-cons Part f [] (subst Part first.formula there) (All-nil Part))
      parts _ _ _ (orderly_split branch above op args sign cases split rest) closed each =
          let on : SignedFormula = record { formula = Op op args; sign = sign } in
          let there = split_there branch (Split on cases) closed op args sign cases refl in
          subst (All Part) (sym (formulas-Split on cases)) (All-cons Part (Op op args) (flat_map formulas_in cases) split.part (case_parts branch (Op op args ∷ above) args cases rest there.below there.formulas each (each_argument op args split.part)))

      case_parts : (branch : List SignedFormula) (above : List Formula) (args : List Formula) (cases : List PlainCase) → AreOrderly logic rules goal branch above cases → AreClosed logic branch cases → All (λ case. map (λ item. item.formula) case.added ≡ args) cases → AreParts branch → All Part args → All Part (flat_map formulas_in cases)
      case_parts _ _ args _ (orderly_none branch above) closed formulas each each_arg = All-nil Part
      case_parts _ _ args _ (orderly_more branch above case cases here rest) closed formulas each each_arg =
          let next = next_closed branch (case ∷ cases) closed case cases refl in
          let own : map (λ item. item.formula) case.added ≡ args = All-head (λ (c : PlainCase). map (λ item. item.formula) c.added ≡ args) case cases formulas in
          let added : AreParts case.added = added_parts args case own each_arg in
          All-append Part (formulas_in case) (flat_map formulas_in cases)
          (All-append Part (map (λ item. item.formula) case.added) (formulas_of case.below) (subst (All Part) (sym own) each_arg) (parts (branch ++ case.added) above case.below here next.0 (All-append (λ (item : SignedFormula). Part item.formula) branch case.added each added)))
          (case_parts branch above args cases rest next.1 (All-tail (λ (c : PlainCase). map (λ item. item.formula) c.added ≡ args) case cases formulas) each each_arg)
