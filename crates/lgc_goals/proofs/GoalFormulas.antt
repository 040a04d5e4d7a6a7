-- What is true of each formula of a query is true of each formula of its goals.
use Rattle.std.proofs.Common.{◌≡◌, ℕ, ◌+◌, ◌^◌, Bool, true, false, cond, List, [], ◌∷◌, ◌++◌, length, get_or, slice_get, slice_index, Some, subst}
use Rattle.std.specs.List.{All, AllByRecursion, flat_map, fold, zip, range_with_len}
use Rattle.std.proofs.lemmas.List.Elements.{All-nil, All-cons, All-map, All-from_recursion, recursion_from_All}
use Rattle.std.proofs.lemmas.Option.{slice_get_within, get_or_from_slice_get}
use Rattle.lgc_values.specs.Values.{members_of}
use Rattle.lgc_values.specs.Logic.{arguments_at}
use Rattle.lgc_syntax.specs.declared.formula.Formula.{Formula}
use Rattle.lgc_syntax.specs.Equality.{same_formula}
use Rattle.lgc_sequents.specs.Signed.{SignedFormula}
use Rattle.lgc_sequents.specs.Sequents.{union, joined, added}
use Rattle.lgc_meaning.specs.declared.query.Pair.{Pair}
use Rattle.lgc_meaning.specs.declared.query.Query.{Query}
use Rattle.lgc_meaning.specs.declared.query.Query.TheVariants.{Mixed, Equation, Quasi}
use Rattle.lgc_meaning.specs.Queries.{sides, formulas_of}
use Rattle.lgc_meaning.proofs.Parts.{All-left, All-right}
use Rattle.lgc_goals.specs.Goals.{complement, each_signed, with_signed, mixed_goal, premise_items, conclusion_items, quasi_goal, quasi_goals, goals_of}

module _ (P : Formula → Type 0) where
  abbrev Each : List SignedFormula → Type 0
  Each items = AllByRecursion (λ item. P item.formula) items

  each_joined : (n : ℕ) (items : List SignedFormula) (f : Formula) (sign : List ℕ) → Each items → P f → Each (joined n items f sign)
  each_joined n [] f sign each here = (here, tt)
  each_joined n (item ∷ items) f sign each here = pick (same_formula f item.formula) (each_joined n items f sign each.1 here) where
    pick : (b : Bool) → Each (joined n items f sign) → Each (cond b (record item { sign = union n item.sign sign } ∷ items) (item ∷ joined n items f sign))
    pick true rest = (each.0, each.1)
    pick false rest = (each.0, rest)

  each_added : (n : ℕ) (items : List SignedFormula) (f : Formula) (sign : List ℕ) → Each items → P f → Each (added n items f sign)
  each_added n items f [] each here = each
  each_added n items f (v ∷ sign) each here = each_joined n items f (v ∷ sign) each here

  each_of_sequent : (n : ℕ) (sequent items : List SignedFormula) → Each sequent → Each items → Each (fold (with_signed n) sequent items)
  each_of_sequent n sequent [] each more = each
  each_of_sequent n sequent (x ∷ items) each more = each_of_sequent n (added n sequent x.formula x.sign) items (each_added n sequent x.formula x.sign each more.0) more.1

  each_appended : (xs ys : List SignedFormula) → Each xs → Each ys → Each (xs ++ ys)
  each_appended [] ys left right = right
  each_appended (x ∷ xs) ys left right = (left.0, each_appended xs ys left.1 right)

  each_of_signed : (sign : List ℕ) (formulas : List Formula) → AllByRecursion P formulas → Each (each_signed sign formulas)
  each_of_signed sign [] all = tt
  each_of_signed sign (f ∷ formulas) all = (all.0, each_of_signed sign formulas all.1)

  each_of_premises : (n : ℕ) (premises : List Pair) (values : List ℕ) → AllByRecursion P (flat_map sides premises) → Each (flat_map (premise_items n) (zip premises values))
  each_of_premises n [] values all = tt
  each_of_premises n (pair ∷ premises) [] all = tt
  each_of_premises n (pair ∷ premises) (v ∷ values) all = (all.0, (all.1.0, each_of_premises n premises values all.1.1))

  abbrev AllOf : List SignedFormula → Type 0
  AllOf goal = All (λ item. P item.formula) goal

  all_of_quasi_goal : (n : ℕ) (premises : List Pair) (conclusion : Pair) (tuple : List ℕ) → All P (flat_map sides premises ++ sides conclusion) → AllOf (quasi_goal n premises conclusion tuple)
  all_of_quasi_goal n premises conclusion tuple all =
      let left = recursion_from_All P (flat_map sides premises) (All-left P (flat_map sides premises) (sides conclusion) all) in
      let right = recursion_from_All P (sides conclusion) (All-right P (flat_map sides premises) (sides conclusion) all) in
      let firsts = flat_map (premise_items n) (zip premises tuple) in
      let seconds = conclusion_items n conclusion (slice_index tuple (length premises)) in
      All-from_recursion (λ item. P item.formula) (quasi_goal n premises conclusion tuple)
      (each_of_sequent n [] (firsts ++ seconds) tt (each_appended firsts seconds (each_of_premises n premises tuple left) (right.0, (right.1.0, tt))))

  all_of_quasi_goals : (n : ℕ) (premises : List Pair) (conclusion : Pair) → All P (flat_map sides premises ++ sides conclusion) → All AllOf (quasi_goals n premises conclusion)
  all_of_quasi_goals n premises conclusion all =
      All-map AllOf (λ (i : ℕ). quasi_goal n premises conclusion (arguments_at n (length premises + 1) i)) (range_with_len 0 (n ^ (length premises + 1)))
      (λ i d lt. all_of_quasi_goal n premises conclusion (arguments_at n (length premises + 1) (get_or (range_with_len 0 (n ^ (length premises + 1))) i d)) all)

  all_of_goals : (n : ℕ) (query : Query) → All P (formulas_of query) → All AllOf (goals_of n query)
  all_of_goals n (Mixed given wanted premises conclusions) all =
      let left = recursion_from_All P premises (All-left P premises conclusions all) in
      let right = recursion_from_All P conclusions (All-right P premises conclusions all) in
      let from = each_signed (complement n (members_of n given)) premises in
      let to = each_signed (members_of n wanted) conclusions in
      let goal = mixed_goal n (members_of n given) (members_of n wanted) premises conclusions in
      All-cons AllOf goal [] (All-from_recursion (λ item. P item.formula) goal
      (each_of_sequent n [] (from ++ to) tt (each_appended from to (each_of_signed (complement n (members_of n given)) premises left) (each_of_signed (members_of n wanted) conclusions right))))
      (All-nil AllOf)
  all_of_goals n (Equation pair) all = all_of_quasi_goals n [] pair all
  all_of_goals n (Quasi premises conclusion) all = all_of_quasi_goals n premises conclusion all

  -- so it is true of each formula of the goal at a place
  pub all_of_goal_at : (n : ℕ) (query : Query) (place : ℕ) (goal : List SignedFormula) → slice_get (goals_of n query) place ≡ Some goal → All P (formulas_of query) → AllOf goal
  all_of_goal_at n query place goal is all =
      subst AllOf (get_or_from_slice_get (goals_of n query) place goal goal is) (all_of_goals n query all place goal (slice_get_within (goals_of n query) place goal is))
