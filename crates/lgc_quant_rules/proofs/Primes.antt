-- A prime clause stays prime when its `all` sets are put in order.
use Rattle.std.proofs.Common.{◌≡◌, ◌+◌, ◌≢◌, ℕ, zero, suc, ◌-◌, ◌^◌, ◌<◌, ◌≤◌, Bool, true, false, ◌==◌, ◌||◌, not, List, [], ◌∷◌, length, set, get_or, refl, ap, sym, ◌∙◌, arith, ⊎_elim, subst}
use Rattle.std.specs.Prelude.{filter, All, Contains}
use Rattle.std.specs.List.{list_all, list_any}
use Rattle.std.proofs.lemmas.Bool.{and_parts, or_cases, or_left, or_right, or_parts, or_from, both_ways, false_from_ne_true, cases_eq, cases_lt}
use Rattle.std.proofs.lemmas.List.{get_or-set_same, get_or-set_other, length-set, get_or_default}
use Rattle.std.proofs.lemmas.List.Folds.{list_any_none, list_any_at, Any-from_list_any}
use Rattle.lgc_values.proofs.ValueLaws.{some_member}
use Rattle.lgc_values.specs.Values.{has, mask_of, set_of_row}
use Rattle.lgc_clauses.specs.Rules.{holds_over}
use Rattle.lgc_derivation.specs.Tables.{PlainTable}
use Rattle.lgc_derivation.specs.Derived.{IsPrime, IsSettled, Follows}
use Rattle.lgc_quant_rules.specs.SetOrder.{RiseByMask, IsOrderOf, IsOrderedClauseOf}

-- rising sets differ
differ : (sets : List (List ℕ)) (j k : ℕ) → j < length sets → k < length sets → (k ≡ j → ⊥) → RiseByMask sets → get_or sets j [] ≡ get_or sets k [] → ⊥
differ sets j k lt lt' ne rising e =
    let same : mask_of (get_or sets j []) ≡ mask_of (get_or sets k []) = ap mask_of e in
    ⊎_elim
    (λ (below : j < k). let rise : mask_of (get_or sets j []) < mask_of (get_or sets k []) = rising j k [] below lt' in omega arith)
    (λ (le : k ≤ j). let rise : mask_of (get_or sets k []) < mask_of (get_or sets j []) = rising k j [] (omega (arith, ne)) lt in omega arith)
    (cases_lt j k)

-- a test that no set of a list passes is passed by none that stands in the list
pub none_among : (p : List ℕ → Bool) (sets others : List (List ℕ)) → All (Contains others) sets → list_any p others ≡ false → list_any p sets ≡ false
none_among p sets others known none = list_any_none p sets (λ k d lt.
    let stands = known k d lt in
    false_from_ne_true (p (get_or sets k d)) (λ holds. both_ways (list_any p others) none (list_any_at p others stands.0 (get_or sets k d) stands.1 (subst (λ (one : List ℕ). p one ≡ true) (sym stands.2) holds))))

none_at : (p : List ℕ → Bool) (sets : List (List ℕ)) (k : ℕ) (d : List ℕ) → k < length sets → list_any p sets ≡ false → p (get_or sets k d) ≡ false
none_at p sets k d lt none = false_from_ne_true (p (get_or sets k d)) (λ holds. both_ways (list_any p sets) none (list_any_at p sets k d lt holds))

-- the same where one set is made smaller in both lists
none_less : (p : List ℕ → Bool) (sets others : List (List ℕ)) (j i : ℕ) (less : List ℕ) → j < length sets → i < length others → get_or others i [] ≡ get_or sets j [] → RiseByMask sets → All (Contains others) sets → list_any p (set others i less) ≡ false → list_any p (set sets j less) ≡ false
none_less p sets others j i less lt lt' same rising known none = list_any_none p (set sets j less) each where
  there : (l : ℕ) → l < length others → (l ≡ i → ⊥) → p (get_or others l []) ≡ false
  there l below ne = subst (λ (one : List ℕ). p one ≡ false) (get_or-set_other others i l less [] ne) (none_at p (set others i less) l [] (omega (arith, length-set others i less)) none)

  each : All (λ one. p one ≡ false) (set sets j less)
  each k d below =
      let within : k < length sets = omega (arith, below, length-set sets j less) in
      ⊎_elim
      (λ (e : k ≡ j).
      let at : get_or (set sets j less) k d ≡ less = ap (λ n. get_or (set sets j less) n d) e ∙ get_or-set_same sets j less d lt in
      let out : p less ≡ false = subst (λ (one : List ℕ). p one ≡ false) (get_or-set_same others i less [] lt') (none_at p (set others i less) i [] (omega (arith, length-set others i less)) none) in
      subst (λ (one : List ℕ). p one ≡ false) (sym at) out)
      (λ (ne : k ≡ j → ⊥).
      let at : get_or (set sets j less) k d ≡ get_or sets k [] = get_or-set_other sets j k less d ne ∙ get_or_default sets k d [] within in
      let stands = known k [] within in
      let is : get_or others stands.0 [] ≡ get_or sets k [] = get_or_default others stands.0 [] (get_or sets k []) stands.1 ∙ stands.2 in
      let apart : stands.0 ≡ i → ⊥ = λ e. differ sets j k lt within ne rising (sym same ∙ ap (λ n. get_or others n []) (sym e) ∙ is) in
      subst (λ (one : List ℕ). p one ≡ false) (sym at) (subst (λ (one : List ℕ). p one ≡ false) is (there stands.0 stands.1 apart)))
      (cases_eq k j)

lies_in_some_values : (values set : List ℕ) → values ≢ [] → list_all (has set) values ≡ true → set ≢ []
lies_in_some_values [] set some lies e = absurd (some refl)
lies_in_some_values (v ∷ values) set some lies e =
    let parts = and_parts (has set v) (list_all (has set) values) lies in
    both_ways (has set v) (ap (λ s. has s v) e) parts.0

module _ (size count : ℕ) (target : ℕ → Bool) (short : count ≤ 2 ^ size - 1) where
  abbrev rows : PlainTable
  rows = record { count = count; target = target; holds = λ sets row. holds_over sets (set_of_row size row) }

  -- the clause in order is true where the clause is: an empty `all` set is true at no nonempty set
  follows_ordered : (some : List ℕ) (all ordered : List (List ℕ)) → IsOrderOf all ordered → Follows rows (some ∷ all) → Follows rows (some ∷ ordered)
  follows_ordered some all ordered order follows row lt inside =
      let values = set_of_row size row in
      ⊎_elim
      (λ here. or_left (list_any (has some) values) (list_any (λ set. list_all (has set) values) ordered) here)
      (λ there.
      let found = Any-from_list_any (λ set. list_all (has set) (set_of_row size row)) all there in
      let at : Contains all found.1 = (found.0, found.2, found.3) in
      let stands : Contains ordered found.1 = kept_at found.1 at (lies_in_some_values values found.1 (some_member size (row + 1) (omega arith) (omega arith)) found.4) in
      or_right (list_any (has some) values) (list_any (λ set. list_all (has set) values) ordered)
      (list_any_at (λ set. list_all (has set) (set_of_row size row)) ordered stands.0 found.1 stands.1 (subst (λ (one : List ℕ). list_all (has one) (set_of_row size row) ≡ true) (sym stands.2) found.4)))
      (or_cases (list_any (has some) values) (list_any (λ set. list_all (has set) values) all) (follows row lt inside)) where
        kept_at : (one : List ℕ) → Contains all one → one ≢ [] → Contains ordered one
        kept_at one at = subst (λ (s : List ℕ). s ≢ [] → Contains ordered s) at.2 (order.kept at.0 one at.1)

  settled_ordered : (some : List ℕ) (all ordered : List (List ℕ)) → IsOrderOf all ordered → IsPrime rows (some ∷ all) → (j v : ℕ) → j < suc (length ordered) → IsSettled rows (some ∷ ordered) j v
  settled_ordered some all ordered order prime zero v lt member =
      let before = prime.settled zero v (omega arith) member in
      let values = set_of_row size before.0 in
      let less = filter (λ u. not (u == v)) some in
      let parts : (list_any (has (filter (λ u. not (u == v)) some)) (set_of_row size before.0) ≡ false) × (list_any (λ set. list_all (has set) (set_of_row size before.0)) all ≡ false) = or_parts (list_any (has less) values) (list_any (λ set. list_all (has set) values) all) before.1.fails in
      (before.0, record { within = before.1.within; inside = before.1.inside; fails = or_from (list_any (has less) values) (list_any (λ set. list_all (has set) values) ordered) parts.0 (none_among (λ set. list_all (has set) values) ordered all order.known parts.1) })
  settled_ordered some all ordered order prime (suc j) v lt member =
      let below : j < length ordered = omega (arith, lt) in
      let stands = order.known j [] below in
      let is : get_or all stands.0 [] ≡ get_or ordered j [] = get_or_default all stands.0 [] (get_or ordered j []) stands.1 ∙ stands.2 in
      let less = filter (λ u. not (u == v)) (get_or ordered j []) in
      let there : has (get_or all stands.0 []) v ≡ true = subst (λ (s : List ℕ). has s v ≡ true) (sym is) member in
      let before = prime.settled (suc stands.0) v (omega (arith, stands.1)) there in
      let values = set_of_row size before.0 in
      let fails : (list_any (has some) values || list_any (λ one. list_all (has one) values) (set all stands.0 less)) ≡ false =
      subst (λ (s : List ℕ). (list_any (has some) (set_of_row size before.0) || list_any (λ one. list_all (has one) (set_of_row size before.0)) (set all stands.0 (filter (λ u. not (u == v)) s))) ≡ false) is before.1.fails in
      let parts : (list_any (has some) values ≡ false) × (list_any (λ one. list_all (has one) values) (set all stands.0 less) ≡ false) = or_parts (list_any (has some) values) (list_any (λ one. list_all (has one) values) (set all stands.0 less)) fails in
      (before.0, record { within = before.1.within; inside = before.1.inside; fails = or_from (list_any (has some) values) (list_any (λ one. list_all (has one) values) (set ordered j less)) parts.0 (none_less (λ one. list_all (has one) values) ordered all j stands.0 less below stands.1 is order.rising order.known parts.1) })

  pub prime_ordered : (sets ordered : List (List ℕ)) → 0 < length sets → IsOrderedClauseOf sets ordered → IsPrime rows sets → IsPrime rows ordered
  prime_ordered [] ordered some order prime = absurd (omega (arith, some))
  prime_ordered (one ∷ all) [] some order prime = absurd (omega (arith, order.some))
  prime_ordered (one ∷ all) (other ∷ ordered) some order prime = rw order.same (record {
    follows = follows_ordered one all ordered order.all prime.follows;
    settled = λ j v lt. settled_ordered one all ordered order.all prime j v lt;
  })

pub ordered_fails : (sets ordered : List (List ℕ)) (values : List ℕ) → IsOrderedClauseOf sets ordered → 0 < length sets → holds_over sets values ≡ false → holds_over ordered values ≡ false
ordered_fails [] ordered values order some fails = absurd (omega (arith, some))
ordered_fails (one ∷ all) [] values order some fails = refl
ordered_fails (one ∷ all) (other ∷ ordered) values order some fails =
    let parts = or_parts (list_any (has one) values) (list_any (λ set. list_all (has set) values) all) fails in
    rw order.same (or_from (list_any (has one) values) (list_any (λ set. list_all (has set) values) ordered) parts.0 (none_among (λ set. list_all (has set) values) ordered all order.all.known parts.1))
