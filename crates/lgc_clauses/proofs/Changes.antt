-- Clauses with a part taken away.
use Rattle.std.proofs.Common.{◌≡◌, ℕ, zero, suc, ◌+◌, ◌-◌, ◌/◌, ◌%◌, ◌^◌, ◌<◌, ◌≤◌, Bool, true, false, ◌==◌, ◌&&◌, ◌||◌, not, List, [], ◌∷◌, length, take, drop, set, get_or, refl, ap, sym, ◌∙◌, arith, cond, ⊎_elim}
use Rattle.std.specs.Prelude.{filter}
use Rattle.std.specs.List.{list_all, list_any, remove}
use Rattle.std.proofs.lemmas.Bool.Decides.{nat_tests}
use Rattle.std.proofs.lemmas.List.{drop_all, length-set, get_or-set_same, get_or-set_other}
use Rattle.std.proofs.lemmas.Bool.{cases_eq, eq-eqb, ne_eqb}
use Rattle.std.proofs.lemmas.List.Folds.{list_any-append}
use Rattle.lgc_values.specs.Values.{has, set_of_row}
use Rattle.lgc_values.specs.Logic.{Logic, arguments_at}
use Rattle.lgc_clauses.specs.Rules.{Head, operator, quantifier, some_in, clause_holds, holds_over, is_true_at, all_true_at}
use Rattle.lgc_clauses.proofs.Walking.{holds_more}
use Rattle.lgc_clauses.specs.Irredundance.{sets_without, clauses_without, set_at, clause_at}

-- a test of all items of a list is one of any item and of the others
and_swap : (a b c : Bool) → (a && (b && c)) ≡ (b && (a && c))
and_swap true b c = refl
and_swap false true c = refl
and_swap false false c = refl

pub list_all-set : {X : Type 0} (p : X → Bool) (xs : List X) (i : ℕ) (x : X) → i < length xs → list_all p (set xs i x) ≡ (p x && list_all p (remove xs i))
list_all-set p [] i x lt = absurd (omega (arith, lt))
list_all-set p (y ∷ ys) zero x lt = refl
list_all-set p (y ∷ ys) (suc i) x lt = ap (λ b. p y && b) (list_all-set p ys i x (omega (arith, lt))) ∙ and_swap (p y) (p x) (list_all p (remove ys i))

list_all-one : {X : Type 0} (p : X → Bool) (xs : List X) (i : ℕ) (d : X) → i < length xs → list_all p xs ≡ (p (get_or xs i d) && list_all p (remove xs i))
list_all-one p [] i d lt = absurd (omega (arith, lt))
list_all-one p (x ∷ xs) zero d lt = refl
list_all-one p (x ∷ xs) (suc i) d lt = ap (λ b. p x && b) (list_all-one p xs i d (omega (arith, lt))) ∙ and_swap (p x) (p (get_or xs i d)) (list_all p (remove xs i))

-- a walk over the items of a list, and past one of them
pub true_everywhere : {X : Type 0} (p : X → Bool) (xs : List X) (d : X) → ((k : ℕ) → k < length xs → p (get_or xs k d) ≡ true) → list_all p xs ≡ true
true_everywhere p [] d each = refl
true_everywhere p (x ∷ xs) d each = rw (each 0 (omega arith)) (true_everywhere p xs d (λ k lt. each (suc k) (omega arith)))

pub true_elsewhere : {X : Type 0} (p : X → Bool) (xs : List X) (i : ℕ) (d : X) → ((k : ℕ) → k < length xs → (k ≡ i → ⊥) → p (get_or xs k d) ≡ true) → list_all p (remove xs i) ≡ true
true_elsewhere p [] zero d each = refl
true_elsewhere p [] (suc i) d each = refl
true_elsewhere p (x ∷ xs) zero d each = true_everywhere p xs d (λ k lt. each (suc k) (omega arith) (λ e. omega (arith, e)))
true_elsewhere p (x ∷ xs) (suc i) d each = rw (each 0 (omega arith) (λ e. omega (arith, e))) (true_elsewhere p xs i d (λ k lt ne. each (suc k) (omega arith) (λ e. ne (omega (arith, e)))))

false_somewhere : {X : Type 0} (p : X → Bool) (xs : List X) (k : ℕ) (d : X) → k < length xs → p (get_or xs k d) ≡ false → list_all p xs ≡ false
false_somewhere p xs k d lt fails = list_all-one p xs k d lt ∙ ap (λ b. b && list_all p (remove xs k)) fails

pub false_elsewhere : {X : Type 0} (p : X → Bool) (xs : List X) (i k : ℕ) (d : X) → k < length xs → (k ≡ i → ⊥) → p (get_or xs k d) ≡ false → list_all p (remove xs i) ≡ false
false_elsewhere p [] i k d lt ne fails = absurd (omega (arith, lt))
false_elsewhere p (x ∷ xs) zero zero d lt ne fails = absurd (ne refl)
false_elsewhere p (x ∷ xs) zero (suc k) d lt ne fails = false_somewhere p xs k d (omega (arith, lt)) fails
false_elsewhere p (x ∷ xs) (suc i) zero d lt ne fails = ap (λ b. b && list_all p (remove xs i)) fails
false_elsewhere p (x ∷ xs) (suc i) (suc k) d lt ne fails = ap (λ b. p x && b) (false_elsewhere p xs i k d (omega (arith, lt)) (λ e. ne (ap suc e)) fails) ∙ and_false (p x) where
  and_false : (b : Bool) → (b && false) ≡ false
  and_false true = refl
  and_false false = refl

-- all clauses but one, where that one is true
pub others_with : (logic : Logic) (head : Head) (clauses : List (List (List ℕ))) (i row : ℕ) → i < length clauses → is_true_at logic head (clause_at clauses i) row ≡ true → all_true_at logic head (remove clauses i) row ≡ all_true_at logic head clauses row
others_with logic head clauses i row lt holds = sym (list_all-one (λ sets. is_true_at logic head sets row) clauses i [] lt ∙ ap (λ b. b && all_true_at logic head (remove clauses i) row) holds)

-- a set without a value
pub has-filter : (p : ℕ → Bool) (set : List ℕ) (w : ℕ) → has (filter p set) w ≡ (has set w && p w)
has-filter p [] w = refl
has-filter p (x ∷ xs) w = has_pick (p x) x w (p w) (filter p xs) xs (λ e. ap p e) (has-filter p xs w) where
  has_pick : (b : Bool) (x w : ℕ) (q : Bool) (kept xs : List ℕ) → (x ≡ w → b ≡ q) → has kept w ≡ (has xs w && q) → has (cond b (x ∷ kept) kept) w ≡ (has (x ∷ xs) w && q)
  has_pick true x w q kept xs here there = grind (arith, nat_tests)
  has_pick false x w q kept xs here there = grind (arith, nat_tests)

has-without : (sets : List (List ℕ)) (i v j a : ℕ) → i < length sets → has (set_at (sets_without sets i v) j) a ≡ (has (set_at sets j) a && not (j == i && (a == v)))
has-without sets i v j a lt = ⊎_elim
    (λ (e : j ≡ i). let at : set_at (sets_without sets i v) j ≡ filter (λ w. not (w == v)) (set_at sets i) = rw e (get_or-set_same sets i (filter (λ w. not (w == v)) (set_at sets i)) [] lt) in
    rw (at, has-filter (λ w. not (w == v)) (set_at sets i) a, e, eq-eqb i i refl) refl)
    (λ (ne : j ≡ i → ⊥). let at : set_at (sets_without sets i v) j ≡ set_at sets j = get_or-set_other sets i j (filter (λ w. not (w == v)) (set_at sets i)) [] ne in
    rw (at, ne_eqb j i ne) (keep (has (set_at sets j) a)))
    (cases_eq j i) where
      keep : (b : Bool) → b ≡ (b && true)
      keep true = refl
      keep false = refl

-- one side of an `or` grows
or_first : (less b rest : Bool) → (less ≡ true → b ≡ true) → (less || rest) ≡ true → (b || rest) ≡ true
or_first true b rest grows h = rw (grows refl) refl
or_first false true rest grows h = refl
or_first false false rest grows h = h

or_later : (b less rest : Bool) → (less ≡ true → rest ≡ true) → (b || less) ≡ true → (b || rest) ≡ true
or_later true less rest grows h = refl
or_later false less rest grows h = grows h

-- a clause without a value is true at fewer rows
some_in-without : (sets : List (List ℕ)) (arguments : List ℕ) (j v : ℕ) → some_in (sets_without sets j v) arguments ≡ true → some_in sets arguments ≡ true
some_in-without [] arguments j v holds = holds
some_in-without (set ∷ sets) [] zero v holds = holds
some_in-without (set ∷ sets) [] (suc j) v holds = holds
some_in-without (set ∷ sets) (a ∷ arguments) zero v holds = kept (has set a) (not (a == v)) (some_in sets arguments) (sym (ap (λ b. b || some_in sets arguments) (has-filter (λ w. not (w == v)) set a)) ∙ holds) where
  kept : (b c rest : Bool) → ((b && c) || rest) ≡ true → (b || rest) ≡ true
  kept true c rest h = refl
  kept false c rest h = h
some_in-without (set ∷ sets) (a ∷ arguments) (suc j) v holds = or_later (has set a) (some_in (sets_without sets j v) arguments) (some_in sets arguments) (some_in-without sets arguments j v) holds

holds_without : (size : ℕ) (sets : List (List ℕ)) (j v row : ℕ) → clause_holds size (sets_without sets j v) row ≡ true → clause_holds size sets row ≡ true
holds_without size sets j v row holds =
    let count : length (sets_without sets j v) ≡ length sets = length-set sets j (filter (λ w. not (w == v)) (set_at sets j)) in
    some_in-without sets (arguments_at size (length sets) row) j v (rw count at holds)

-- a clause of a quantifier without a value is true at fewer sets of values
meets_less : (p : ℕ → Bool) (some values : List ℕ) → list_any (has (filter p some)) values ≡ true → list_any (has some) values ≡ true
meets_less p some [] meets = meets
meets_less p some (w ∷ values) meets = more (has (filter p some) w) (has some w) (p w) (list_any (has (filter p some)) values) (list_any (has some) values) (has-filter p some w) (meets_less p some values) meets where
  more : (less b c less' rest : Bool) → less ≡ (b && c) → (less' ≡ true → rest ≡ true) → (less || less') ≡ true → (b || rest) ≡ true
  more less true c less' rest e grows h = refl
  more less false c less' rest e grows h = let none : less ≡ false = e in grows (ap (λ b. b || less') (sym none) ∙ h)

lies_less : (p : ℕ → Bool) (set values : List ℕ) → list_all (has (filter p set)) values ≡ true → list_all (has set) values ≡ true
lies_less p set [] lies = lies
lies_less p set (w ∷ values) lies = more (has (filter p set) w) (has set w) (p w) (list_all (has (filter p set)) values) (list_all (has set) values) (has-filter p set w) (lies_less p set values) lies where
  more : (less b c less' rest : Bool) → less ≡ (b && c) → (less' ≡ true → rest ≡ true) → (less && less') ≡ true → (b && rest) ≡ true
  more true true c less' rest e grows h = grows h
  more true false c less' rest e grows h = cc
  more false b c less' rest e grows h = cc

lies_in_less : (all : List (List ℕ)) (j v : ℕ) (values : List ℕ) → list_any (λ set. list_all (has set) values) (sets_without all j v) ≡ true → list_any (λ set. list_all (has set) values) all ≡ true
lies_in_less [] j v values lies = lies
lies_in_less (set ∷ all) zero v values lies = or_first (list_all (has (filter (λ w. not (w == v)) set)) values) (list_all (has set) values) (list_any (λ set. list_all (has set) values) all) (lies_less (λ w. not (w == v)) set values) lies
lies_in_less (set ∷ all) (suc j) v values lies = or_later (list_all (has set) values) (list_any (λ set. list_all (has set) values) (sets_without all j v)) (list_any (λ set. list_all (has set) values) all) (lies_in_less all j v values) lies

over_without : (sets : List (List ℕ)) (j v : ℕ) (values : List ℕ) → holds_over (sets_without sets j v) values ≡ true → holds_over sets values ≡ true
over_without [] j v values holds = holds
over_without (some ∷ all) zero v values holds = or_first (list_any (has (filter (λ w. not (w == v)) some)) values) (list_any (has some) values) (list_any (λ set. list_all (has set) values) all) (meets_less (λ w. not (w == v)) some values) holds
over_without (some ∷ all) (suc j) v values holds = or_later (list_any (has some) values) (list_any (λ set. list_all (has set) values) (sets_without all j v)) (list_any (λ set. list_all (has set) values) all) (lies_in_less all j v values) holds

pub over_later : (some : List ℕ) (all : List (List ℕ)) (j v : ℕ) (values : List ℕ) → 1 ≤ j → holds_over (sets_without (some ∷ all) j v) values ≡ (list_any (has some) values || list_any (λ set. list_all (has set) values) (sets_without all (j - 1) v))
over_later some all zero v values pos = absurd (omega (arith, pos))
over_later some all (suc j) v values pos = let e : suc j - 1 ≡ j = omega arith in rw e refl

-- whether a set lies in one of the others, of which one is without a value
any-set : {X : Type 0} (p : X → Bool) (xs : List X) (i : ℕ) (x : X) → i < length xs → list_any p (set xs i x) ≡ (p x || list_any p (remove xs i))
any-set p [] i x lt = absurd (omega (arith, lt))
any-set p (y ∷ ys) zero x lt = refl
any-set p (y ∷ ys) (suc i) x lt = ap (λ b. p y || b) (any-set p ys i x (omega (arith, lt))) ∙ or_swap (p y) (p x) (list_any p (remove ys i)) where
  or_swap : (a b c : Bool) → (a || (b || c)) ≡ (b || (a || c))
  or_swap true true c = refl
  or_swap true false c = refl
  or_swap false b c = refl

pub any_without : (sets : List (List ℕ)) (j v : ℕ) (values : List ℕ) → j < length sets → list_any (λ set. list_all (has set) values) (sets_without sets j v) ≡ (list_all (has (filter (λ w. not (w == v)) (set_at sets j))) values || list_any (λ set. list_all (has set) values) (remove sets j))
any_without sets j v values lt = any-set (λ set. list_all (has set) values) sets j (filter (λ w. not (w == v)) (set_at sets j)) lt

pub any_other : (sets : List (List ℕ)) (j : ℕ) (values : List ℕ) → list_any (λ set. list_all (has set) values) (remove sets j) ≡ (list_any (λ set. list_all (has set) values) (take j sets) || list_any (λ set. list_all (has set) values) (drop (j + 1) sets))
any_other sets j values = let e : j + 1 ≡ suc j = omega arith in rw e (list_any-append (λ set. list_all (has set) values) (take j sets) (drop (suc j) sets))

-- of both kinds
true_without : (logic : Logic) (head : Head) (sets : List (List ℕ)) (j v row : ℕ) → is_true_at logic head (sets_without sets j v) row ≡ true → is_true_at logic head sets row ≡ true
true_without logic (operator op) sets j v row holds = holds_without logic.size sets j v row holds
true_without logic (quantifier q) sets j v row holds = over_without sets j v (set_of_row logic.size row) holds

-- clauses without a value are true where the changed clause is and all clauses are
pub less_where : (logic : Logic) (head : Head) (clauses : List (List (List ℕ))) (i j v row : ℕ) → i < length clauses → all_true_at logic head (clauses_without clauses i j v) row ≡ (is_true_at logic head (sets_without (clause_at clauses i) j v) row && all_true_at logic head clauses row)
less_where logic head clauses i j v row lt =
    list_all-set (λ sets. is_true_at logic head sets row) clauses i (sets_without (clause_at clauses i) j v) lt
    ∙ rw (list_all-one (λ sets. is_true_at logic head sets row) clauses i [] lt) (with (is_true_at logic head (sets_without (clause_at clauses i) j v) row) (is_true_at logic head (clause_at clauses i) row) (all_true_at logic head (remove clauses i) row) (true_without logic head (clause_at clauses i) j v row)) where
      with : (less b rest : Bool) → (less ≡ true → b ≡ true) → (less && rest) ≡ (less && (b && rest))
      with false b rest grows = refl
      with true b rest grows = rw (grows refl) refl

-- the clause of the sets from j on, without value v of set i
pub without_step : (size : ℕ) (sets : List (List ℕ)) (i v j row : ℕ) → j < length sets → i < length sets → clause_holds size (drop j (sets_without sets i v)) row ≡ ((has (set_at sets j) (row / size ^ (length sets - 1 - j) % size) && not (j == i && (row / size ^ (length sets - 1 - j) % size == v))) || clause_holds size (drop (j + 1) (sets_without sets i v)) row)
without_step size sets i v j row lt lti =
    let count : length (sets_without sets i v) ≡ length sets = length-set sets i (filter (λ w. not (w == v)) (set_at sets i)) in
    let step : clause_holds size (drop j (sets_without sets i v)) row ≡ (has (set_at (sets_without sets i v) j) (row / size ^ (length (sets_without sets i v) - 1 - j) % size) || clause_holds size (drop (j + 1) (sets_without sets i v)) row) = holds_more size (sets_without sets i v) j row (omega arith) in
    step ∙ rw count (ap (λ b. b || clause_holds size (drop (j + 1) (sets_without sets i v)) row) (has-without sets i v j (row / size ^ (length sets - 1 - j) % size) lti))

pub without_none : (size : ℕ) (sets : List (List ℕ)) (i v j row : ℕ) → length sets ≤ j → clause_holds size (drop j (sets_without sets i v)) row ≡ false
without_none size sets i v j row le =
    let count : length (sets_without sets i v) ≡ length sets = length-set sets i (filter (λ w. not (w == v)) (set_at sets i)) in
    rw (drop_all j (sets_without sets i v) (omega arith)) refl
