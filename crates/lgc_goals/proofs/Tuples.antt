-- How many equations a query with few goals has.
use Rattle.std.proofs.Common.{ℕ, ◌+◌, ◌^◌, ◌<◌, ◌≤◌, arith, ⊎_elim}
use Rattle.std.proofs.Math.Nat.{pow-le-pow_left, pow-le-pow_right}
use Rattle.std.proofs.lemmas.Bool.{cases_lt}
use Rattle.lgc_goals.specs.declared.TheConstants.{MOST_GOALS}

pub few_equations : (n k : ℕ) → 2 ≤ n → n ^ k ≤ MOST_GOALS → k ≤ 12
few_equations n k low few = ⊎_elim
    (λ (above : 12 < k).
    let up : 2 ^ 13 ≤ 2 ^ k = pow-le-pow_right {n = 2} (omega arith) {i = 13} {j = k} (omega arith) in
    let wide : 2 ^ k ≤ n ^ k = pow-le-pow_left low k in
    absurd (omega arith))
    (λ (within : k ≤ 12). within)
    (cases_lt 12 k)
