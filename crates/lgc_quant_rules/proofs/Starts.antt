-- The clause that is false at one set alone.
use Rattle.std.proofs.Common.{◌≡◌, ℕ, zero, suc, ◌+◌, ◌<◌, Bool, true, false, ◌==◌, not, List, [], ◌∷◌, ◌++◌, cond, map, refl, ap, sym, ◌∙◌, arith, ⊎_elim}
use Rattle.std.specs.Prelude.{nat_lt, filter}
use Rattle.std.specs.List.{list_all, list_any, range_with_len}
use Rattle.std.proofs.lemmas.Bool.{and_parts, and_from, and_cases, or_left, or_right, or_from, both_ways, false_from_ne_true, cases_Bool, eq-eqb, eqb-true, ne_eqb, or_cases, lt-ltb}
use Rattle.std.proofs.lemmas.List.{map-append, append-nil}
use Rattle.std.proofs.lemmas.List.Elements.{filter-append}
use Rattle.lgc_values.specs.Values.{has, values_where}
use Rattle.lgc_values.proofs.ValueLaws.{has-values_where}
use Rattle.lgc_clauses.specs.Rules.{holds_over}
use Rattle.lgc_clauses.proofs.Changes.{has-filter}
use Rattle.lgc_derivation.specs.Parts.{IsWithin}
use Rattle.lgc_quant_rules.specs.Quantifiers.{clause_against}
use Rattle.lgc_quant_rules.specs.Laws.{holds_over_within}

-- ---- members of a list
has_head : (v : ℕ) (rest : List ℕ) → has (v ∷ rest) v ≡ true
has_head v rest = or_left (v == v) (has rest v) (eq-eqb v v refl)

has_tail : (x v : ℕ) (rest : List ℕ) → has rest v ≡ true → has (x ∷ rest) v ≡ true
has_tail x v rest member = or_right (x == v) (has rest v) member

failing_value : (p : ℕ → Bool) (values : List ℕ) → list_all p values ≡ false → (v : ℕ) × (has values v ≡ true) × (p v ≡ false)
failing_value p [] falls = absurd (both_ways true falls refl)
failing_value p (x ∷ values) falls = ⊎_elim
    (λ (here : p x ≡ false). (x, has_head x values, here))
    (λ (there : list_all p values ≡ false). let rest = failing_value p values there in (rest.0, has_tail x rest.0 values rest.1, rest.2))
    (and_cases (p x) (list_all p values) falls)

any_at : (p : ℕ → Bool) (values : List ℕ) (v : ℕ) → has values v ≡ true → p v ≡ true → list_any p values ≡ true
any_at p [] v member holds = absurd (both_ways false refl member)
any_at p (x ∷ values) v member holds = ⊎_elim
    (λ here. or_left (p x) (list_any p values) (ap p (eqb-true x v here) ∙ holds))
    (λ there. or_right (p x) (list_any p values) (any_at p values v there holds))
    (or_cases (x == v) (has values v) member)

any_map_at : (p : List ℕ → Bool) (f : ℕ → List ℕ) (values : List ℕ) (v : ℕ) → has values v ≡ true → p (f v) ≡ true → list_any p (map f values) ≡ true
any_map_at p f [] v member holds = absurd (both_ways false refl member)
any_map_at p f (x ∷ values) v member holds = ⊎_elim
    (λ here. or_left (p (f x)) (list_any p (map f values)) (ap (λ u. p (f u)) (eqb-true x v here) ∙ holds))
    (λ there. or_right (p (f x)) (list_any p (map f values)) (any_map_at p f values v there holds))
    (or_cases (x == v) (has values v) member)

none_map : (p : List ℕ → Bool) (f : ℕ → List ℕ) (values : List ℕ) → ((v : ℕ) → has values v ≡ true → p (f v) ≡ false) → list_any p (map f values) ≡ false
none_map p f [] none = refl
none_map p f (x ∷ values) none = or_from (p (f x)) (list_any p (map f values)) (none x (has_head x values)) (none_map p f values (λ v member. none v (has_tail x v values member)))

none_of : (p : ℕ → Bool) (values : List ℕ) → ((v : ℕ) → has values v ≡ true → p v ≡ false) → list_any p values ≡ false
none_of p [] none = refl
none_of p (x ∷ values) none = or_from (p x) (list_any p values) (none x (has_head x values)) (none_of p values (λ v member. none v (has_tail x v values member)))

pub all_at : (p : ℕ → Bool) (values : List ℕ) (v : ℕ) → list_all p values ≡ true → has values v ≡ true → p v ≡ true
all_at p [] v all member = absurd (both_ways false refl member)
all_at p (x ∷ values) v all member =
    let parts = and_parts (p x) (list_all p values) all in
    ⊎_elim (λ here. ap p (sym (eqb-true x v here)) ∙ parts.0) (λ there. all_at p values v parts.1 there) (or_cases (x == v) (has values v) member)

all_of : (p : ℕ → Bool) (values : List ℕ) → ((v : ℕ) → has values v ≡ true → p v ≡ true) → list_all p values ≡ true
all_of p [] all = refl
all_of p (x ∷ values) all = and_from (p x) (list_all p values) (all x (has_head x values)) (all_of p values (λ v member. all v (has_tail x v values member)))

picked : (size : ℕ) (p : ℕ → Bool) (v : ℕ) → v < size → p v ≡ true → has (values_where size p) v ≡ true
picked size p v lt passes = has-values_where size p v ∙ and_from (nat_lt v size) (p v) (lt-ltb v size lt) passes

passes_picked : (size : ℕ) (p : ℕ → Bool) (v : ℕ) → has (values_where size p) v ≡ true → p v ≡ true
passes_picked size p v member = (and_parts (nat_lt v size) (p v) (sym (has-values_where size p v) ∙ member)).1

-- ---- the clause

abbrev others : ℕ → List ℕ → List ℕ
others size set = values_where size (λ v. not (has set v))

abbrev less : List ℕ → ℕ → List ℕ
less set w = filter (λ v. not (v == w)) set

-- it is false at the set
pub against_fails : (size : ℕ) (set : List ℕ) → holds_over (clause_against size set) set ≡ false
against_fails size set = or_from (list_any (has (others size set)) set) (list_any (λ one. list_all (has one) set) (map (less set) (values_where size (has set))))
    (none_of (has (others size set)) set (λ v member. false_from_ne_true (has (others size set) v) (λ out. both_ways (not (has set v)) (ap not member) (passes_picked size (λ w. not (has set w)) v out))))
    (none_map (λ one. list_all (has one) set) (less set) (values_where size (has set)) (λ w member. false_from_ne_true (list_all (has (less set w)) set) (λ lies.
    let within : has (less set w) w ≡ true = all_at (has (less set w)) set w lies (passes_picked size (has set) w member) in
    let parts = and_parts (has set w) (not (w == w)) (sym (has-filter (λ v. not (v == w)) set w) ∙ within) in
    both_ways (not (w == w)) (ap not (eq-eqb w w refl)) parts.1)))

-- it is true at each other set of values
pub against_holds : (size : ℕ) (set values : List ℕ) → ((v : ℕ) → has set v ≡ true → v < size) → ((v : ℕ) → has values v ≡ true → v < size)
    → ((list_all (has set) values ≡ true) → (list_all (has values) set ≡ true) → ⊥) → holds_over (clause_against size set) values ≡ true
against_holds size set values within below apart = ⊎_elim inside outside (cases_Bool (list_all (has set) values)) where
  some_holds : Bool
  some_holds = list_any (has (others size set)) values

  all_holds : Bool
  all_holds = list_any (λ one. list_all (has one) values) (map (less set) (values_where size (has set)))

  outside : list_all (has set) values ≡ false → holds_over (clause_against size set) values ≡ true
  outside falls =
      let out = failing_value (has set) values falls in
      or_left some_holds all_holds (any_at (has (others size set)) values out.0 out.1 (picked size (λ v. not (has set v)) out.0 (below out.0 out.1) (ap not out.2)))

  inside : list_all (has set) values ≡ true → holds_over (clause_against size set) values ≡ true
  inside all = ⊎_elim
      (λ (back : list_all (has values) set ≡ true). absurd (apart all back))
      (λ (falls : list_all (has values) set ≡ false).
      let out = failing_value (has values) set falls in
      let lies : list_all (has (less set out.0)) values ≡ true = all_of (has (less set out.0)) values (λ v member.
      has-filter (λ u. not (u == out.0)) set v ∙ and_from (has set v) (not (v == out.0)) (all_at (has set) values v all member)
      (ap not (ne_eqb v out.0 (λ e. both_ways (has values out.0) out.2 (ap (has values) (sym e) ∙ member))))) in
      or_right some_holds all_holds (any_map_at (λ one. list_all (has one) values) (less set) (values_where size (has set)) out.0 (picked size (has set) out.0 (within out.0 out.1) out.1) lies))
      (cases_Bool (list_all (has values) set))

-- a clause with smaller sets is false there too
pub smaller_fails : (size : ℕ) (set : List ℕ) (start smaller : List (List ℕ)) → start ≡ clause_against size set → IsWithin smaller start → holds_over smaller set ≡ false
smaller_fails size set start smaller is within = false_from_ne_true (holds_over smaller set) (λ holds.
    both_ways (holds_over start set) (ap (λ (sets : List (List ℕ)). holds_over sets set) is ∙ against_fails size set) (holds_over_within smaller start set within holds))

-- ---- how it is made

-- the `some` set, and an `all` set for each value of the set below v
abbrev pub clause_below : ℕ → List ℕ → ℕ → List (List ℕ)
clause_below size set v = others size set ∷ map (less set) (values_where v (has set))

range_more : (a n : ℕ) → range_with_len a (n + 1) ≡ range_with_len a n ++ (a + n) ∷ []
range_more a zero = let e : a + 0 ≡ a = omega arith in rw e refl
range_more a (suc n) =
    let e : suc n + 1 ≡ suc (n + 1) = omega arith in
    let e' : a + suc n ≡ a + 1 + n = omega arith in
    rw (e, e') (ap (λ rest. a ∷ rest) (range_more (a + 1) n))

values_more : (v : ℕ) (test : ℕ → Bool) → values_where (v + 1) test ≡ values_where v test ++ filter test (v ∷ [])
values_more v test =
    let e : 0 + v ≡ v = omega arith in
    ap (filter test) (range_more 0 v ∙ ap (λ w. range_with_len 0 v ++ w ∷ []) e) ∙ filter-append test (range_with_len 0 v) (v ∷ [])

pub value_more : (size v : ℕ) (set one : List ℕ) (sets pushed : List (List ℕ)) → has set v ≡ true → one ≡ less set v → sets ≡ clause_below size set v → pushed ≡ sets ++ one ∷ [] → pushed ≡ clause_below size set (v + 1)
value_more size v set one sets pushed member is before added =
    let more : values_where (v + 1) (has set) ≡ values_where v (has set) ++ v ∷ [] = values_more v (has set) ∙ ap (λ b. values_where v (has set) ++ cond b (v ∷ []) []) member in
    rw (added, before, is, more, map-append (less set) (values_where v (has set)) (v ∷ [])) refl

pub value_passed : (size v : ℕ) (set : List ℕ) (sets : List (List ℕ)) → has set v ≡ false → sets ≡ clause_below size set v → sets ≡ clause_below size set (v + 1)
value_passed size v set sets out before =
    let more : values_where (v + 1) (has set) ≡ values_where v (has set) ++ [] = values_more v (has set) ∙ ap (λ b. values_where v (has set) ++ cond b (v ∷ []) []) out in
    before ∙ ap (λ values. others size set ∷ map (less set) values) (sym (more ∙ append-nil (values_where v (has set))))
