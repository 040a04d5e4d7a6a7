-- An exact rule of a quantifier is exact at the values that a body takes: their set stands in a row of the quantifier's table.
use Rattle.std.proofs.Common.{◌≡◌, ◌≢◌, ℕ, ◌+◌, ◌-◌, ◌^◌, ◌<◌, ◌≤◌, ◌==◌, ◌||◌, ◌&&◌, Bool, true, List, [], ◌∷◌, refl, sym, ◌∙◌, ap, subst, arith, ⊎_elim}
use Rattle.std.specs.Prelude.{nat_lt}
use Rattle.std.specs.List.{All, AllByRecursion, list_all, list_any}
use Rattle.std.specs.Cmp.{both_ways as same_tests}
use Rattle.std.proofs.lemmas.Bool.{and_from, and_parts, or_cases, or_left, or_right, eqb-true, eq-eqb, lt-ltb}
use Rattle.std.proofs.lemmas.List.Elements.{recursion_from_All}
use Rattle.lgc_values.specs.declared.TheConstants.{MOST_VALUES}
use Rattle.lgc_values.specs.Values.{has, values_where, members_of, set_of_row}
use Rattle.lgc_values.specs.Logic.{Logic, IsLogic, value_over}
use Rattle.lgc_values.proofs.ValueLaws.{has-values_where, nonempty_law, mask_for}
use Rattle.lgc_clauses.specs.Rules.{quantifier, holds_over}
use Rattle.lgc_clauses.specs.Exactness.{IsExact}
use Rattle.lgc_syntax.specs.Structures.{set_of_values}
use Rattle.lgc_sequents.proofs.Laws.{list_all-has}

-- ---- lists with the same members

-- a member that passes a test, where some value does
passing_member : (p : ℕ → Bool) (values : List ℕ) → list_any p values ≡ true → (v : ℕ) × (has values v ≡ true) × (p v ≡ true)
passing_member p [] some = cc
passing_member p (w ∷ values) some = ⊎_elim
    (λ (here : p w ≡ true). (w, or_left (w == w) (has values w) (eq-eqb w w refl), here))
    (λ (later : list_any p values ≡ true). let rest = passing_member p values later in (rest.0, or_right (w == rest.0) (has values rest.0) rest.1, rest.2))
    (or_cases (p w) (list_any p values) some)

-- some value passes a test where a member does, and all do where each member does
any_with : (p : ℕ → Bool) (values : List ℕ) (v : ℕ) → has values v ≡ true → p v ≡ true → list_any p values ≡ true
any_with p [] v member passes = cc
any_with p (w ∷ values) v member passes = ⊎_elim
    (λ here. or_left (p w) (list_any p values) (ap p (eqb-true w v here) ∙ passes))
    (λ later. or_right (p w) (list_any p values) (any_with p values v later passes))
    (or_cases (w == v) (has values v) member)

all_with : (p : ℕ → Bool) (values : List ℕ) → ((v : ℕ) → has values v ≡ true → p v ≡ true) → list_all p values ≡ true
all_with p [] each = refl
all_with p (w ∷ values) each =
    and_from (p w) (list_all p values) (each w (or_left (w == w) (has values w) (eq-eqb w w refl))) (all_with p values (λ v member. each v (or_right (w == v) (has values v) member)))

-- so tests of some or of all values, and of all in some set, come out alike on both
module _ (xs ys : List ℕ) (same : (v : ℕ) → has xs v ≡ has ys v) where
  any_alike : (p : ℕ → Bool) → list_any p xs ≡ list_any p ys
  any_alike p = same_tests (list_any p xs) (list_any p ys)
      (λ some. let one = passing_member p xs some in any_with p ys one.0 (sym (same one.0) ∙ one.1) one.2)
      (λ some. let one = passing_member p ys some in any_with p xs one.0 (same one.0 ∙ one.1) one.2)

  all_alike : (p : ℕ → Bool) → list_all p xs ≡ list_all p ys
  all_alike p = same_tests (list_all p xs) (list_all p ys)
      (λ all. all_with p ys (λ v member. list_all-has p xs v all (same v ∙ member)))
      (λ all. all_with p xs (λ v member. list_all-has p ys v all (sym (same v) ∙ member)))

  lies_alike : (sets : List (List ℕ)) → list_any (λ set. list_all (has set) xs) sets ≡ list_any (λ set. list_all (has set) ys) sets
  lies_alike [] = refl
  lies_alike (set ∷ sets) = let here = all_alike (has set) in let rest = lies_alike sets in λ i. here i || rest i

  -- a clause of a quantifier is true at both or at neither
  over_alike : (sets : List (List ℕ)) → holds_over sets xs ≡ holds_over sets ys
  over_alike [] = refl
  over_alike (some ∷ all) = let here = any_alike (has some) in let rest = lies_alike all in λ i. here i || rest i

-- ---- the set of the values of a list

-- members are below n where all values are
member_below : (n : ℕ) (values : List ℕ) (v : ℕ) → AllByRecursion (λ w. w < n) values → has values v ≡ true → v < n
member_below n [] v below member = cc
member_below n (w ∷ values) v below member = ⊎_elim
    (λ here. subst (λ x. x < n) (eqb-true w v here) below.0)
    (λ later. member_below n values v below.1 later)
    (or_cases (w == v) (has values v) member)

-- it has the members of the list
has-values : (n : ℕ) (values : List ℕ) → AllByRecursion (λ w. w < n) values → (v : ℕ) → has values v ≡ has (values_where n (has values)) v
has-values n values below v = sym (has-values_where n (has values) v ∙ same_tests (nat_lt v n && has values v) (has values v)
    (λ both. (and_parts (nat_lt v n) (has values v) both).1)
    (λ member. and_from (nat_lt v n) (has values v) (lt-ltb v n (member_below n values v below member)) member))

module _ (n : ℕ) (few : n ≤ MOST_VALUES) where
  -- it isn't empty where the list isn't
  set_not_empty : (values : List ℕ) → values ≢ [] → AllByRecursion (λ v. v < n) values → values_where n (has values) ≢ []
  set_not_empty [] some below none = some refl
  set_not_empty (v ∷ values) some below none =
      let member : has (v ∷ values) v ≡ true = or_left (v == v) (has values v) (eq-eqb v v refl) in
      let gone : has [] v ≡ true = ap (λ s. has s v) (sym none) ∙ sym (has-values n (v ∷ values) below v) ∙ member in
      cc

  -- so it stands in a row of a quantifier's table
  row_of_values : (values : List ℕ) → values ≢ [] → AllByRecursion (λ v. v < n) values → (row : ℕ) × (row < 2 ^ n - 1) × (set_of_row n row ≡ values_where n (has values))
  row_of_values values some below =
      let mask = mask_for n few values (λ v member. member_below n values v below member) in
      let one : 1 ≤ mask.0 = nonempty_law n mask.0 (values_where n (has values)) mask.2 (set_not_empty values some below) in
      let next : mask.0 - 1 + 1 ≡ mask.0 = omega arith in
      (mask.0 - 1, omega (arith, mask.1), ap (members_of n) next ∙ mask.2)

-- ---- exactness

-- each clause of an exact rule is true at some values exactly where the quantifier's value at their set lies in the sign
pub exact_at_values : (logic : Logic) → IsLogic logic → (q : ℕ) (sign : List ℕ) (clauses : List (List (List ℕ))) (values : List ℕ) → IsExact logic (record { head = quantifier q; sign = sign; clauses = clauses }) → values ≢ []
    → All (λ v. v < logic.size) values → list_all (λ sets. holds_over sets values) clauses ≡ has sign (value_over logic q (set_of_values logic values))
exact_at_values logic is q sign clauses values exact some all_below =
    let below : AllByRecursion (λ v. v < logic.size) values = recursion_from_All (λ v. v < logic.size) values all_below in
    let row = row_of_values logic.size is.sized.high values some below in
    let alike = over_alike values (set_of_values logic values) (has-values logic.size values below) in
    let over_set : list_all (λ sets. holds_over sets values) clauses ≡ list_all (λ sets. holds_over sets (set_of_values logic values)) clauses = λ i. list_all (λ sets. alike sets i) clauses in
    over_set
    ∙ ap (λ set. list_all (λ sets. holds_over sets set) clauses) (sym row.2)
    ∙ exact row.0 row.1
    ∙ ap (λ set. has sign (value_over logic q set)) row.2
