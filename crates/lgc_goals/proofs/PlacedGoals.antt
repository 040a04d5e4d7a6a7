-- The goal at a place among the goals of a query.
use Rattle.std.proofs.Common.{◌≡◌, ℕ, zero, suc, ◌+◌, ◌*◌, ◌^◌, ◌<◌, List, [], ◌∷◌, length, map, slice_get, Some, refl, sym, ◌∙◌, ap, subst, arith}
use Rattle.std.specs.List.{range_with_len}
use Rattle.std.proofs.Math.Nat.{pow-suc, pow-zero}
use Rattle.std.proofs.lemmas.List.FromFn.{get_or-map-range_with_len, length-map-range_with_len}
use Rattle.std.proofs.lemmas.Option.{slice_get-get_or}
use Rattle.lgc_values.specs.Values.{members_of}
use Rattle.lgc_values.specs.Logic.{arguments_at}
use Rattle.lgc_syntax.specs.declared.formula.Formula.{Formula}
use Rattle.lgc_sequents.specs.Signed.{SignedFormula}
use Rattle.lgc_meaning.specs.declared.query.Pair.{Pair}
use Rattle.lgc_meaning.specs.declared.query.Query.{Query}
use Rattle.lgc_meaning.specs.declared.query.Query.TheVariants.{Mixed, Equation, Quasi}
use Rattle.lgc_goals.specs.Goals.{goal_count, mixed_goal, quasi_goal, quasi_goals, goals_of}

quasi_at : (n : ℕ) (premises : List Pair) (conclusion : Pair) (i : ℕ) → i < n ^ (length premises + 1) → slice_get (quasi_goals n premises conclusion) i ≡ Some (quasi_goal n premises conclusion (arguments_at n (length premises + 1) i))
quasi_at n premises conclusion i within =
    let make = λ (j : ℕ). quasi_goal n premises conclusion (arguments_at n (length premises + 1) j) in
    let long = length-map-range_with_len make 0 (n ^ (length premises + 1)) in
    slice_get-get_or (quasi_goals n premises conclusion) i [] (omega (arith, within, long)) ∙ ap (λ goal. Some goal) (get_or-map-range_with_len make 0 (n ^ (length premises + 1)) i i [] within (omega arith))

pub mixed_placed : (n given wanted : ℕ) (premises conclusions left right : List Formula) (query : Query) (i : ℕ) (from to : List ℕ) (goal : List SignedFormula) → query ≡ Mixed given wanted premises conclusions → i < goal_count n query → from ≡ members_of n given → to ≡ members_of n wanted → left ≡ premises → right ≡ conclusions
    → goal ≡ mixed_goal n from to left right → slice_get (goals_of n query) i ≡ Some goal
mixed_placed n given wanted premises conclusions left right query i from to goal is within from_is to_is left_is right_is made =
    let counted : goal_count n query ≡ 1 = ap (goal_count n) is in
    let first : i ≡ 0 = omega (arith, within, counted) in
    (λ j. slice_get (goals_of n (is j)) (first j)) ∙ ap (λ g. Some g) (sym (made ∙ (λ j. mixed_goal n (from_is j) (to_is j) (left_is j) (right_is j))))

pub equation_placed : (n : ℕ) (pair : Pair) (none : List Pair) (query : Query) (i : ℕ) (goal : List SignedFormula) → query ≡ Equation pair → i < goal_count n query → none ≡ []
    → goal ≡ quasi_goal n none pair (arguments_at n (length none + 1) i) → slice_get (goals_of n query) i ≡ Some goal
equation_placed n pair none query i goal is within none_is made =
    let power : n ^ (0 + 1) ≡ n = pow-suc n 0 ∙ ap (λ p. p * n) (pow-zero n) ∙ (omega arith) in
    let counted : goal_count n query ≡ n = ap (goal_count n) is in
    ap (λ q. slice_get (goals_of n q) i) is ∙ quasi_at n [] pair i (omega (arith, within, counted, power))
    ∙ ap (λ g. Some g) (sym (made ∙ ap (λ ps. quasi_goal n ps pair (arguments_at n (length ps + 1) i)) none_is))

pub quasi_placed : (n : ℕ) (premises items : List Pair) (conclusion : Pair) (query : Query) (i : ℕ) (goal : List SignedFormula) → query ≡ Quasi premises conclusion → i < goal_count n query → items ≡ premises
    → goal ≡ quasi_goal n items conclusion (arguments_at n (length items + 1) i) → slice_get (goals_of n query) i ≡ Some goal
quasi_placed n premises items conclusion query i goal is within items_are made =
    let counted : goal_count n query ≡ n ^ (length premises + 1) = ap (goal_count n) is in
    ap (λ q. slice_get (goals_of n q) i) is ∙ quasi_at n premises conclusion i (omega (arith, within, counted))
    ∙ ap (λ g. Some g) (sym (made ∙ ap (λ ps. quasi_goal n ps conclusion (arguments_at n (length ps + 1) i)) items_are))
