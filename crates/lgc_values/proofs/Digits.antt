-- Rows of arguments and their indices.
use Rattle.std.proofs.Common.{◌≡◌, ℕ, zero, suc, ◌-◌, ◌/◌, ◌%◌, ◌^◌, ◌<◌, ◌≤◌, Some, refl, arith}
use Rattle.std.specs.Prelude.{slice_get}
use Rattle.std.proofs.Math.Nat.{pow-le-pow_right, pow-zero}
use Rattle.lgc_values.specs.declared.TheConstants.{MOST_ROWS}
use Rattle.lgc_values.specs.Logic.{arguments_at}

pub power_below : (n k i : ℕ) → 2 ≤ n → i ≤ k → n ^ k ≤ MOST_ROWS → n ^ i < 2 ^ 32
power_below n k i low le most = let up : n ^ i ≤ n ^ k = pow-le-pow_right (omega arith) le in omega arith

pub power_positive : (n i : ℕ) → 2 ≤ n → 0 < n ^ i
power_positive n i low = let one : n ^ 0 ≡ 1 = pow-zero n in let up : n ^ 0 ≤ n ^ i = pow-le-pow_right (omega arith) (omega arith) in omega arith

-- argument j of k, which has k - 1 - j arguments after it
pub get-arguments_at : (n k row j : ℕ) → j < k → slice_get (arguments_at n k row) j ≡ Some (row / n ^ (k - 1 - j) % n)
get-arguments_at n zero row j lt = absurd (omega arith)
get-arguments_at n (suc k) row zero lt = let e : suc k - 1 - 0 ≡ k = omega arith in rw e refl
get-arguments_at n (suc k) row (suc j) lt = let e : suc k - 1 - suc j ≡ k - 1 - j = omega arith in rw e (get-arguments_at n k row j (omega arith))
