-- Elements whose values make a quantifier's clause false, and the assignment that gives them to the eigenvariables.
use Rattle.std.proofs.Common.{◌≡◌, ◌≢◌, ℕ, zero, suc, ◌+◌, ◌<◌, Bool, false, cond, List, [], ◌∷◌, ◌++◌, map, length, bytes_eq, refl, sym, ◌∙◌, ap, arith, ⊎_elim}
use Rattle.std.specs.List.{All, AllPairs, AllByRecursion, list_all, list_any, range_with_len}
use Rattle.std.proofs.lemmas.Bool.{and_cases, or_parts, or_from, both_ways, false_from_ne_true, cond-true, cond-false, cond_both}
use Rattle.std.proofs.lemmas.List.Elements.{All-head, All-tail, All-weaker, recursion_from_All}
use Rattle.std.proofs.lemmas.List.Folds.{list_all-map, list_any_at}
use Rattle.std.proofs.lemmas.List.FromFn.{get_or-map-range_with_len, length-map-range_with_len}
use Rattle.std.proofs.lemmas.Slice.Eq.{bytes_eq-Decides}
use Rattle.lgc_values.specs.Values.{has}
use Rattle.lgc_values.specs.Logic.{Logic}
use Rattle.lgc_clauses.specs.Rules.{some_in}
use Rattle.lgc_syntax.specs.declared.formula.Formula.{Formula}
use Rattle.lgc_syntax.specs.Variables.{free}
use Rattle.lgc_syntax.specs.Structures.{Structure, IsAssignment, value_in}
use Rattle.lgc_syntax.proofs.Lists.{map_each}
use Rattle.lgc_syntax.proofs.StructureLaws.{independent_law}

-- ---- witnesses

-- a number of a range at which a test fails, where some number fails it
failing_at : (p : ℕ → Bool) (a n : ℕ) → list_all p (range_with_len a n) ≡ false → (k : ℕ) × (k < a + n) × (p k ≡ false)
failing_at p a zero fails = cc
failing_at p a (suc n) fails = ⊎_elim
    (λ (here : p a ≡ false). (a, omega arith, here))
    (λ (later : list_all p (range_with_len (a + 1) n) ≡ false). let rest = failing_at p (a + 1) n later in (rest.0, omega (arith, rest.1), rest.2))
    (and_cases (p a) (list_all p (range_with_len (a + 1) n)) fails)

-- where none of the values at the numbers below n passes a test, each fails it
pub each_fails : (p : ℕ → Bool) (at : ℕ → ℕ) (n k : ℕ) → list_any p (map at (range_with_len 0 n)) ≡ false → k < n → p (at k) ≡ false
each_fails p at n k none lt = false_from_ne_true (p (at k)) (λ passes.
    both_ways (list_any p (map at (range_with_len 0 n))) none
    (list_any_at p (map at (range_with_len 0 n)) k 0 (omega (arith, lt, length-map-range_with_len at 0 n)) (ap p (get_or-map-range_with_len at 0 n k k 0 lt (omega arith)) ∙ passes)))

-- For each set a number below n whose value lies outside of it. A clause is then false at these values where its further sets are.
pub record Witnesses (at : ℕ → ℕ) (n : ℕ) (sets : List (List ℕ)) : Type 0 where
  pub chosen : List ℕ
  pub count : length chosen ≡ length sets
  pub below : AllByRecursion (λ k. k < n) chosen
  pub outside : (further : List (List ℕ)) (values : List ℕ) → some_in further values ≡ false → some_in (sets ++ further) (map at chosen ++ values) ≡ false

-- where in no set all values lie, there are such numbers
pub witnesses : (at : ℕ → ℕ) (n : ℕ) (sets : List (List ℕ)) → list_any (λ set. list_all (has set) (map at (range_with_len 0 n))) sets ≡ false → Witnesses at n sets
witnesses at n [] none = record { chosen = []; count = refl; below = tt; outside = λ further values fails. fails }
witnesses at n (set ∷ sets) none =
    let parts = or_parts (list_all (has set) (map at (range_with_len 0 n))) (list_any (λ set. list_all (has set) (map at (range_with_len 0 n))) sets) none in
    let here = failing_at (λ k. has set (at k)) 0 n (sym (list_all-map (has set) at (range_with_len 0 n)) ∙ parts.0) in
    let rest = witnesses at n sets parts.1 in
    record {
      chosen = here.0 ∷ rest.chosen;
      count = ap suc rest.count;
      below = (omega (arith, here.1), rest.below);
      outside = λ further values fails. or_from (has set (at here.0)) (some_in (sets ++ further) (map at rest.chosen ++ values)) here.2 (rest.outside further values fails);
    }

-- ---- assignments

-- the assignment that gives elements to variables, and to all others what s gives them
abbrev pub assigned : List (List ℕ) → List ℕ → (List ℕ → ℕ) → List ℕ → ℕ
assigned [] chosen s = s
assigned (x ∷ names) [] s = s
assigned (x ∷ names) (a ∷ chosen) s = λ y. cond (bytes_eq y x) a (assigned names chosen s y)

-- it is an assignment where these are elements
pub assigned-is : (M : Structure) (names : List (List ℕ)) (chosen : List ℕ) (s : List ℕ → ℕ) → AllByRecursion (λ a. a < M.size) chosen → IsAssignment M s → IsAssignment M (assigned names chosen s)
assigned-is M [] chosen s below is = is
assigned-is M (x ∷ names) [] s below is = is
assigned-is M (x ∷ names) (a ∷ chosen) s below is = λ y. cond_both (bytes_eq y x) a (assigned names chosen s y) (λ v. v < M.size) (λ _. below.0) (λ _. assigned-is M names chosen s below.1 is y)

-- another variable has what the rest of the assignment gives it
assigned_other : (x : List ℕ) (names : List (List ℕ)) (a : ℕ) (chosen : List ℕ) (s : List ℕ → ℕ) (y : List ℕ) → x ≢ y → assigned (x ∷ names) (a ∷ chosen) s y ≡ assigned names chosen s y
assigned_other x names a chosen s y apart = cond-false (bytes_eq y x) a (assigned names chosen s y) (false_from_ne_true (bytes_eq y x) (λ same. apart (sym ((bytes_eq-Decides y x).0 same))))

-- variables that differ have their elements
pub assigned-names : (names : List (List ℕ)) (chosen : List ℕ) (s : List ℕ → ℕ) → length names ≡ length chosen → AllPairs (λ x y. x ≢ y) names → map (assigned names chosen s) names ≡ chosen
assigned-names [] [] s long differ = refl
assigned-names [] (a ∷ chosen) s long differ = absurd (omega arith)
assigned-names (x ∷ names) [] s long differ = absurd (omega arith)
assigned-names (x ∷ names) (a ∷ chosen) s long differ =
    let here : assigned (x ∷ names) (a ∷ chosen) s x ≡ a = cond-true (bytes_eq x x) a (assigned names chosen s x) ((bytes_eq-Decides x x).1 refl) in
    let first : All (λ y. x ≢ y) names = λ i d lt. differ 0 (suc i) d (omega arith) (omega arith) in
    let others : All (λ y. assigned (x ∷ names) (a ∷ chosen) s y ≡ assigned names chosen s y) names =
    All-weaker (λ y. x ≢ y) (λ y. assigned (x ∷ names) (a ∷ chosen) s y ≡ assigned names chosen s y) (assigned_other x names a chosen s) names first in
    let rest : map (assigned (x ∷ names) (a ∷ chosen) s) names ≡ chosen =
    map_each (assigned (x ∷ names) (a ∷ chosen) s) (assigned names chosen s) names (recursion_from_All (λ y. assigned (x ∷ names) (a ∷ chosen) s y ≡ assigned names chosen s y) names others)
    ∙ assigned-names names chosen s (omega arith) (λ i j d lt within. differ (suc i) (suc j) d (omega arith) (omega arith)) in
    λ i. here i ∷ rest i

-- a formula in which none of the variables is free keeps its value
pub assigned-value : (logic : Logic) (M : Structure) (names : List (List ℕ)) (chosen : List ℕ) (s : List ℕ → ℕ) (f : Formula) (e : List ℕ) → All (λ x. free x f ≡ false) names → value_in logic M (assigned names chosen s) f e ≡ value_in logic M s f e
assigned-value logic M [] chosen s f e absent = refl
assigned-value logic M (x ∷ names) [] s f e absent = refl
assigned-value logic M (x ∷ names) (a ∷ chosen) s f e absent =
    independent_law x f (All-head (λ x. free x f ≡ false) x names absent) logic M (assigned (x ∷ names) (a ∷ chosen) s) (assigned names chosen s) e (λ y apart. assigned_other x names a chosen s y (λ same. apart (sym same)))
    ∙ assigned-value logic M names chosen s f e (All-tail (λ x. free x f ≡ false) x names absent)
