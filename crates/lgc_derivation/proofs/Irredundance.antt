-- Why what is derived is exact and irredundant.
use Rattle.std.proofs.Common.{◌≡◌, ℕ, zero, suc, ◌<◌, Bool, true, false, List, [], ◌∷◌, length, refl, ap, sym, ◌∙◌, arith, ⊎_elim}
use Rattle.std.specs.Prelude.{All}
use Rattle.std.specs.List.{list_all, remove}
use Rattle.std.proofs.lemmas.Bool.{and_parts, and_from, both_ways, cases_Bool}
use Rattle.lgc_clauses.specs.Irredundance.{clause_at, sets_without, clauses_without}
use Rattle.lgc_derivation.specs.Tables.{PlainTable, all_hold_over, IsExactOver, IsIrredundantOver}
use Rattle.lgc_derivation.specs.Derived.{IsPrime, NeedsAt, RefutesAt}
use Rattle.lgc_clauses.proofs.Changes.{list_all-set}

all_from : {X : Type 0} (p : X → Bool) (xs : List X) → All (λ x. p x ≡ true) xs → list_all p xs ≡ true
all_from p [] h = refl
all_from p (x ∷ xs) h = and_from (p x) (list_all p xs) (h zero x (omega arith)) (all_from p xs (λ k d lt. h (suc k) d (omega (arith, lt))))

-- clauses that follow are exact where one is false at each row outside the target
pub exact_from : (table : PlainTable) (clauses : List (List (List ℕ))) → All (IsPrime table) clauses → ((row : ℕ) → row < table.count → table.target row ≡ false → all_hold_over table clauses row ≡ false) → IsExactOver table clauses
exact_from table clauses prime falsified row lt = ⊎_elim
    (λ (inside : table.target row ≡ true). all_from (λ sets. table.holds sets row) clauses (λ k d lt'. (prime k d lt').follows row lt inside) ∙ sym inside)
    (λ (outside : table.target row ≡ false). falsified row lt outside ∙ sym outside)
    (cases_Bool (table.target row))

-- the clauses are exact where others are that are all true at the same rows
pub exact_along : (table : PlainTable) (old new : List (List (List ℕ))) → ((row : ℕ) → row < table.count → all_hold_over table new row ≡ all_hold_over table old row) → IsExactOver table old → IsExactOver table new
exact_along table old new same exact row lt = same row lt ∙ exact row lt

-- the central lemma: prime clauses, each of them needed, are irredundant. At the row where a clause is needed the
-- others alone say that the target is met, and it isn't. At the row that settles a value the clause without it is
-- false, and the target is met. That row doesn't depend on the other clauses.
pub irredundant_from : (table : PlainTable) (clauses : List (List (List ℕ))) → All (IsPrime table) clauses → ((i : ℕ) → i < length clauses → (row : ℕ) × NeedsAt table clauses i row) → IsIrredundantOver table clauses
irredundant_from table clauses prime needed = record {
  needs_clause = λ i lt exact.
      let need : (row : ℕ) × NeedsAt table clauses i row = needed i lt in
      let inside : table.target need.0 ≡ true = sym (exact need.0 need.1.within) ∙ need.1.rest in
      both_ways (table.holds (clause_at clauses i) need.0) need.1.fails ((prime i [] lt).follows need.0 need.1.within inside);
  needs_value = λ i j v place exact.
      let less = sets_without (clause_at clauses i) j v in
      let refuted : (row : ℕ) × RefutesAt table (sets_without (clause_at clauses i) j v) row = (prime i [] place.clause).settled j v place.part place.value in
      let holds : all_hold_over table (clauses_without clauses i j v) refuted.0 ≡ true = exact refuted.0 refuted.1.within ∙ refuted.1.inside in
      let parts : (table.holds (sets_without (clause_at clauses i) j v) refuted.0 ≡ true) × (all_hold_over table (remove clauses i) refuted.0 ≡ true) =
      and_parts (table.holds less refuted.0) (all_hold_over table (remove clauses i) refuted.0) (sym (list_all-set (λ sets. table.holds sets refuted.0) clauses i less place.clause) ∙ holds) in
      both_ways (table.holds less refuted.0) refuted.1.fails parts.0;
}

-- what is exact or irredundant over a table is so over each with the same rows, target and truth
pub exact_alike : (one other : PlainTable) → one.count ≡ other.count → ((row : ℕ) → row < other.count → one.target row ≡ other.target row) → one.holds ≡ other.holds
    → (clauses : List (List (List ℕ))) → IsExactOver one clauses → IsExactOver other clauses
exact_alike one other count target holds clauses exact row lt =
    ap (λ (truth : List (List ℕ) → ℕ → Bool). list_all (λ sets. truth sets row) clauses) (sym holds) ∙ exact row (omega arith) ∙ target row lt

pub irredundant_alike : (one other : PlainTable) → one.count ≡ other.count → ((row : ℕ) → row < other.count → one.target row ≡ other.target row) → one.holds ≡ other.holds
    → (clauses : List (List (List ℕ))) → IsIrredundantOver one clauses → IsIrredundantOver other clauses
irredundant_alike one other count target holds clauses irredundant = record {
  needs_clause = λ i lt exact. irredundant.needs_clause i lt (back (remove clauses i) exact);
  needs_value = λ i j v place exact. irredundant.needs_value i j v place (back (clauses_without clauses i j v) exact);
} where
  back : (others : List (List (List ℕ))) → IsExactOver other others → IsExactOver one others
  back = exact_alike other one (sym count) (λ row lt. sym (target row (omega arith))) (sym holds)
