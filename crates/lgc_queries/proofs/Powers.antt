-- Powers that are multiplied up factor by factor.
use Rattle.std.proofs.Common.{◌≡◌, ◌≤◌, ◌<◌, ◌+◌, ◌*◌, ◌^◌, ℕ, suc, true, refl, arith}
use Rattle.std.specs.Prelude.{nat_lt}
use Rattle.std.proofs.lemmas.Bool.{lt-ltb}
use Rattle.std.proofs.Math.Nat.{mul_assoc, pow-succ', le-mul_of_pos_right, one-le-pow}
use Rattle.lgc_goals.specs.declared.TheConstants.{MOST_GOALS}

-- one factor before others
pub factor_before : (n k : ℕ) → n * n ^ k ≡ n ^ (k + 1)
factor_before n k = let one : k + 1 ≡ suc k = omega arith in rw (one, pow-succ' n k) refl

-- a factor goes over to what was multiplied
pub factor_moves : (n power left others : ℕ) → left ≡ suc others → (power * n) * n ^ others ≡ power * n ^ left
factor_moves n power left others e = rw (e, pow-succ' n others) (mul_assoc power n (n ^ others))

-- what is above the limit stays above it
pub stays_large : (n power k : ℕ) → 2 ≤ n → MOST_GOALS < power → nat_lt MOST_GOALS (power * n ^ k) ≡ true
stays_large n power k some large = lt-ltb MOST_GOALS (power * n ^ k) (omega (arith, large, le-mul_of_pos_right {m = n ^ k} power (one-le-pow k n (omega (arith, some)))))
