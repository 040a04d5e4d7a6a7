-- The steps of taking values from a clause.
use Rattle.std.proofs.Common.{◌≡◌, ℕ, ◌<◌, true, ◌==◌, not, List, [], length, set, get_or, ap, ◌∙◌}
use Rattle.std.specs.Prelude.{filter}
use Rattle.std.proofs.lemmas.Bool.{both_ways, false_from_ne_true}
use Rattle.std.proofs.lemmas.List.{get_or_read, set-set, set-get_or}
use Rattle.lgc_clauses.specs.Irredundance.{sets_without}
use Rattle.lgc_derivation.specs.Parts.{IsWithin}
use Rattle.lgc_derivation.specs.Tables.{PlainTable}
use Rattle.lgc_derivation.specs.Derived.{IsSettled, RefutesAt}
use Rattle.lgc_derivation.proofs.Within.{within_at, within_both}

-- a smaller set is written, and the old one again
pub taken : (sets : List (List ℕ)) (j v : ℕ) (old less : List ℕ) → j < length sets → old ≡ get_or sets j old → less ≡ filter (λ w. not (w == v)) old → set sets j less ≡ sets_without sets j v
taken sets j v old less lt at is = let e : old ≡ get_or sets j [] = get_or_read sets j old lt at [] in ap (λ s. set sets j s) (is ∙ ap (filter (λ w. not (w == v))) e)

pub given_back : (sets : List (List ℕ)) (j : ℕ) (old less : List ℕ) → j < length sets → old ≡ get_or sets j old → set (set sets j less) j old ≡ sets
given_back sets j old less lt at = set-set sets j less old ∙ ap (set sets j) at ∙ set-get_or sets j old

-- a value that couldn't be taken from a clause can't be taken from one with smaller sets
pub settled_within : (table : PlainTable)
    → ((narrow wide : List (List ℕ)) (row : ℕ) → IsWithin narrow wide → table.holds narrow row ≡ true → table.holds wide row ≡ true)
    → (xs ys : List (List ℕ)) (j v : ℕ) → IsWithin xs ys → IsSettled table ys j v → IsSettled table xs j v
settled_within table monotone xs ys j v within settled member =
    let before : (row : ℕ) × RefutesAt table (sets_without ys j v) row = settled (within_at xs ys j v within member) in (
      before.0,
      record {
        within = before.1.within;
        inside = before.1.inside;
        fails = false_from_ne_true (table.holds (sets_without xs j v) before.0) (λ holds. both_ways (table.holds (sets_without ys j v) before.0) before.1.fails (monotone (sets_without xs j v) (sets_without ys j v) before.0 (within_both xs ys j v within) holds));
      },
    )
