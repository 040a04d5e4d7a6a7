-- A walk over the sets of a clause, from the first on.
use Rattle.std.proofs.Common.{◌≡◌, ℕ, ◌+◌, ◌-◌, ◌/◌, ◌%◌, ◌^◌, ◌<◌, ◌||◌, List, [], length, drop, refl, arith}
use Rattle.std.proofs.lemmas.Grind.{common_steps}
use Rattle.std.proofs.lemmas.List.{drop_more}
use Rattle.lgc_values.specs.Values.{has}
use Rattle.lgc_clauses.specs.Rules.{clause_holds}
use Rattle.lgc_clauses.specs.Irredundance.{set_at}

-- the clause of the sets from j on
pub holds_more : (size : ℕ) (sets : List (List ℕ)) (j row : ℕ) → j < length sets → clause_holds size (drop j sets) row ≡ (has (set_at sets j) (row / size ^ (length sets - 1 - j) % size) || clause_holds size (drop (j + 1) sets) row)
holds_more size sets j row lt =
    let e : length (drop (j + 1) sets) ≡ length sets - 1 - j = grind (arith, common_steps) in
    rw (drop_more sets j [] lt, e) refl
