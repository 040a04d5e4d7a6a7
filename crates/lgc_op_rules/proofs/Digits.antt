-- The arguments of a row as the digits of its index.
use Rattle.std.proofs.Common.{◌≡◌, ℕ, zero, suc, ◌+◌, ◌-◌, ◌*◌, ◌/◌, ◌%◌, ◌^◌, ◌<◌, ◌≤◌, true, false, ◌||◌, List, [], ◌∷◌, length, drop, get_or, refl, ap, sym, ◌∙◌, arith, subst}
use Rattle.std.proofs.lemmas.Grind.{common_steps}
use Rattle.std.proofs.lemmas.Bool.{or_left, or_right, or_from}
use Rattle.std.proofs.lemmas.List.{get_or_read}
use Rattle.std.proofs.Math.Nat.{pow-suc, pow-zero, mul_comm, mod-eq_of_lt, one-le-pow, div-div-eq-div-mul}
use Rattle.std.proofs.Math.Arith.{mod-mul}
use Rattle.lgc_values.specs.Values.{has}
use Rattle.lgc_values.specs.Logic.{arguments_at}
use Rattle.lgc_clauses.specs.Rules.{clause_holds}
use Rattle.lgc_clauses.proofs.Walking.{holds_more}

pub length-arguments_at : (size k row : ℕ) → length (arguments_at size k row) ≡ k
length-arguments_at size zero row = refl
length-arguments_at size (suc k) row = ap suc (length-arguments_at size k row)

-- the clause of the last sets, and of one more
last_sets : (size row : ℕ) (sets : List (List ℕ)) (i : ℕ) → i < length sets
    → clause_holds size (drop (length sets - (i + 1)) sets) row ≡ (has (get_or sets (length sets - 1 - i) []) (row / size ^ i % size) || clause_holds size (drop (length sets - i) sets) row)
last_sets size row sets i lt =
    let at : length sets - (i + 1) ≡ length sets - 1 - i = omega arith in
    let next : length sets - i ≡ length sets - 1 - i + 1 = omega arith in
    let after : length sets - 1 - (length sets - 1 - i) ≡ i = omega arith in
    rw (at, next) (subst (λ (k : ℕ). clause_holds size (drop (length sets - 1 - i) sets) row ≡ (has (get_or sets (length sets - 1 - i) []) (row / size ^ k % size) || clause_holds size (drop (length sets - 1 - i + 1) sets) row)) after
    (holds_more size sets (length sets - 1 - i) row (omega arith)))

holds_drop : (size row : ℕ) (sets : List (List ℕ)) (j : ℕ) → clause_holds size (drop j sets) row ≡ true → clause_holds size sets row ≡ true
holds_drop size row [] zero holds = holds
holds_drop size row [] (suc j) holds = holds
holds_drop size row (set ∷ sets) zero holds = holds
holds_drop size row (set ∷ sets) (suc j) holds = or_right (has set (row / size ^ length sets % size)) (clause_holds size sets row) (holds_drop size row sets j holds)

module _ (size row rest : ℕ) (sets : List (List ℕ)) (i : ℕ) (lt : i < length sets) (set : List ℕ) (is : set ≡ get_or sets (length sets - 1 - i) set) (at : rest ≡ row / size ^ i) where
  step : clause_holds size (drop (length sets - (i + 1)) sets) row ≡ (has set (rest % size) || clause_holds size (drop (length sets - i) sets) row)
  step = rw (at, get_or_read sets (length sets - 1 - i) set (omega arith) is []) (last_sets size row sets i lt)

  -- the argument lies in its set
  pub found_at : has set (rest % size) ≡ true → clause_holds size sets row ≡ true
  found_at member = holds_drop size row sets (length sets - (i + 1)) (step ∙ or_left (has set (rest % size)) (clause_holds size (drop (length sets - i) sets) row) member)

  -- it doesn't
  pub passed_at : has set (rest % size) ≡ false → clause_holds size (drop (length sets - i) sets) row ≡ false → clause_holds size (drop (length sets - (i + 1)) sets) row ≡ false
  passed_at other none = step ∙ or_from (has set (rest % size)) (clause_holds size (drop (length sets - i) sets) row) other none

  pub rest_more : rest / size ≡ row / size ^ (i + 1)
  rest_more = let next : size ^ (i + 1) ≡ size ^ i * size = grind (arith, common_steps) in rw (at, next) (div-div-eq-div-mul row (size ^ i) size)

-- rows with the same arguments are one
same_digits : (size k row other : ℕ) → 0 < size → arguments_at size k row ≡ arguments_at size k other → row % size ^ k ≡ other % size ^ k
same_digits size zero row other some same = rw pow-zero (omega arith)
same_digits size (suc k) row other some same =
    let first : row / size ^ k % size ≡ other / size ^ k % size = cc in
    let others : arguments_at size k row ≡ arguments_at size k other = cc in
    let rest : row % size ^ k ≡ other % size ^ k = same_digits size k row other some others in
    let positive : 0 < size ^ k = let one : 1 ≤ size ^ k = one-le-pow k size some in omega arith in
    let whole : size ^ suc k ≡ size * size ^ k = pow-suc size k ∙ mul_comm (size ^ k) size in
    rw (whole, mod-mul row some positive, mod-mul other some positive, first, rest) refl

pub same_row : (size k row other : ℕ) → 0 < size → row < size ^ k → other < size ^ k → arguments_at size k row ≡ arguments_at size k other → row ≡ other
same_row size k row other some lt lt' same = sym (mod-eq_of_lt lt) ∙ same_digits size k row other some same ∙ mod-eq_of_lt lt'
