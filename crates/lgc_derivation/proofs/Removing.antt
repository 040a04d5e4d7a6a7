-- Clauses that are taken out where the others cover them.
use Rattle.std.proofs.Common.{◌≡◌, ℕ, zero, suc, ◌+◌, ◌<◌, Bool, true, false, ◌&&◌, List, [], ◌∷◌, length, take, drop, refl, ap, sym, ◌∙◌, arith}
use Rattle.std.specs.Prelude.{All}
use Rattle.std.specs.List.{remove, list_all}
use Rattle.std.proofs.lemmas.Bool.{and_parts, and_from}
use Rattle.std.proofs.lemmas.List.{set-get_or}
use Rattle.std.proofs.lemmas.List.Edits.{get_or-remove_below}
use Rattle.std.proofs.lemmas.List.Elements.{All-append, All-take, All-drop}
use Rattle.std.proofs.lemmas.List.Folds.{list_all-append}
use Rattle.lgc_clauses.proofs.Changes.{list_all-set}
use Rattle.lgc_clauses.specs.Irredundance.{clause_at}
use Rattle.lgc_derivation.specs.Tables.{PlainTable, all_hold_over}
use Rattle.lgc_derivation.specs.Derived.{NeedsAt, IsCovered}

pub All-remove : {X : Type 0} (P : X → Type 0) (xs : List X) (i : ℕ) → All P xs → All P (remove xs i)
All-remove P xs i all = All-append P (take i xs) (drop (suc i) xs) (All-take P i xs all) (All-drop P (suc i) xs all)

pub others_apart : (table : PlainTable) (clauses : List (List (List ℕ))) (i row : ℕ) → all_hold_over table (remove clauses i) row ≡ (all_hold_over table (take i clauses) row && all_hold_over table (drop (i + 1) clauses) row)
others_apart table clauses i row = let e : i + 1 ≡ suc i = omega arith in rw e (list_all-append (λ sets. table.holds sets row) (take i clauses) (drop (suc i) clauses))

list_all-remove : {X : Type 0} (p : X → Bool) (xs : List X) (i : ℕ) → list_all p xs ≡ true → list_all p (remove xs i) ≡ true
list_all-remove p [] zero h = h
list_all-remove p [] (suc i) h = h
list_all-remove p (x ∷ xs) zero h = (and_parts (p x) (list_all p xs) h).1
list_all-remove p (x ∷ xs) (suc i) h = let parts = and_parts (p x) (list_all p xs) h in and_from (p x) (list_all p (remove xs i)) parts.0 (list_all-remove p xs i parts.1)

list_all-remove_two : {X : Type 0} (p : X → Bool) (xs : List X) (k i : ℕ) → k < i → list_all p (remove xs k) ≡ true → list_all p (remove (remove xs i) k) ≡ true
list_all-remove_two p xs k zero lt h = absurd (omega arith)
list_all-remove_two p [] zero (suc i) lt h = h
list_all-remove_two p [] (suc k) (suc i) lt h = h
list_all-remove_two p (x ∷ xs) zero (suc i) lt h = list_all-remove p xs i h
list_all-remove_two p (x ∷ xs) (suc k) (suc i) lt h = let parts = and_parts (p x) (list_all p (remove xs k)) h in and_from (p x) (list_all p (remove (remove xs i) k)) parts.0 (list_all-remove_two p xs k i (omega arith) parts.1)

-- without a clause that is covered, all are true where they were
pub covered_same : (table : PlainTable) (clauses : List (List (List ℕ))) (i row : ℕ) → i < length clauses → IsCovered table clauses i → row < table.count → all_hold_over table (remove clauses i) row ≡ all_hold_over table clauses row
covered_same table clauses i row lt covered within =
    let apart : all_hold_over table clauses row ≡ (table.holds (clause_at clauses i) row && all_hold_over table (remove clauses i) row) =
    ap (λ (all : List (List (List ℕ))). all_hold_over table all row) (sym (set-get_or clauses i [])) ∙ list_all-set (λ sets. table.holds sets row) clauses i (clause_at clauses i) lt in
    pick (table.holds (clause_at clauses i) row) (all_hold_over table (remove clauses i) row) (covered row within) ∙ sym apart where
      pick : (one others : Bool) → (one ≡ false → others ≡ false) → others ≡ (one && others)
      pick true others h = refl
      pick false others h = h refl

-- a clause that was needed before a later one is taken out is needed afterwards
pub needed_remove : (table : PlainTable) (clauses : List (List (List ℕ))) (k i row : ℕ) → k < i → i < length clauses → NeedsAt table clauses k row → NeedsAt table (remove clauses i) k row
needed_remove table clauses k i row lt lt' needs = record {
  within = needs.within;
  fails = ap (λ sets. table.holds sets row) (get_or-remove_below clauses i [] k lt lt') ∙ needs.fails;
  rest = list_all-remove_two (λ sets. table.holds sets row) clauses k i lt needs.rest;
}
