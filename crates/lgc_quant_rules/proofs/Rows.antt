-- Rows and the nonempty sets that stand in them.
use Rattle.std.proofs.Common.{◌≡◌, ℕ, ◌+◌, ◌-◌, ◌^◌, ◌<◌, true, false, ◌==◌, List, [], refl, ap, sym, ◌∙◌, arith, Bool, ◌∷◌, ◌++◌, length, get_or, below_more}
use Rattle.std.specs.Int.{bit_at}
use Rattle.std.specs.List.{list_all}
use Rattle.std.proofs.lemmas.List.{get_or_push, get_or_append_left}
use Rattle.lgc_values.specs.Values.{has, mask_of, set_of_row}
use Rattle.lgc_values.specs.Masks.{mask_of-members_of}
use Rattle.lgc_values.proofs.ValueLaws.{values_where-alike, has-members_of, members_below}
use Rattle.lgc_quant_rules.proofs.Starts.{all_at}

pub row_values_below : (n row v : ℕ) → has (set_of_row n row) v ≡ true → v < n
row_values_below n row v member = members_below n (row + 1) v (set_of_row n row) refl member

-- rows whose sets have the same values are one
pub same_row : (n row other : ℕ) → row < 2 ^ n - 1 → other < 2 ^ n - 1 → list_all (has (set_of_row n row)) (set_of_row n other) ≡ true → list_all (has (set_of_row n other)) (set_of_row n row) ≡ true → row ≡ other
same_row n row other lt lt' forth back =
    let same : set_of_row n row ≡ set_of_row n other = values_where-alike n (λ v. bit_at (row + 1) v == 1) (λ v. bit_at (other + 1) v == 1) (λ v below.
    sym (has-members_of n (row + 1) v below)
    ∙ alike (has (set_of_row n row) v) (has (set_of_row n other) v) (λ member. all_at (has (set_of_row n other)) (set_of_row n row) v back member) (λ member. all_at (has (set_of_row n row)) (set_of_row n other) v forth member)
    ∙ has-members_of n (other + 1) v below) in
    let mask : mask_of (set_of_row n row) ≡ row + 1 = mask_of-members_of n (row + 1) (omega arith) in
    let mask' : mask_of (set_of_row n other) ≡ other + 1 = mask_of-members_of n (other + 1) (omega arith) in
    let both : mask_of (set_of_row n row) ≡ mask_of (set_of_row n other) = ap mask_of same in
    omega arith where
      alike : (a b : Bool) → (a ≡ true → b ≡ true) → (b ≡ true → a ≡ true) → a ≡ b
      alike true b forth back = sym (forth refl)
      alike false true forth back = back refl
      alike false false forth back = refl

-- one row more of a table is told
pub told_more : (told pushed : List Bool) (row : ℕ) (inside : Bool) (target : ℕ → Bool) → length told ≡ row → pushed ≡ told ++ inside ∷ [] → inside ≡ target row → ((r : ℕ) → r < row → get_or told r false ≡ target r) → (r : ℕ) → r < row + 1 → get_or pushed r false ≡ target r
told_more told pushed row inside target count added is before = rw added (below_more (λ r. get_or (told ++ inside ∷ []) r false ≡ target r) row
    (λ r lt. get_or_append_left told (inside ∷ []) false r (omega arith) ∙ before r lt)
    (get_or_push told inside false row count ∙ is))
