-- The index of a tuple of arguments tells the tuple, and the tuple its index.
use Rattle.std.proofs.Common.{◌≡◌, ℕ, zero, suc, ◌+◌, ◌*◌, ◌/◌, ◌%◌, ◌^◌, ◌<◌, ◌≤◌, List, [], ◌∷◌, All, fold, length, refl, sym, ap, ◌∙◌, arith, add-one}
use Rattle.std.proofs.Math.Nat.{pow-zero, pow-suc, pow-le-pow_left, pow-le-pow_right, mod-eq_of_lt, one-le-pow}
use Rattle.std.proofs.Math.Arith.{mod-mul}
use Rattle.std.proofs.lemmas.Nat.{mul-add-lt, div-mul-add, mod-mul-add}
use Rattle.std.proofs.lemmas.List.Elements.{All-head, All-tail}
use Rattle.lgc_values.specs.declared.TheConstants.{MOST_VALUES, MOST_ARGUMENTS}
use Rattle.lgc_values.specs.Logic.{arguments_at}
use Rattle.lgc_spec.specs.Rows.{index_of}

-- the index of digits behind the number s
abbrev index_from : ℕ → ℕ → List ℕ → ℕ
index_from n s digits = fold (λ index digit. index * n + digit) s digits

shift : (s n d p x p' : ℕ) → p' ≡ p * n → (s * n + d) * p + x ≡ s * p' + ((0 * n + d) * p + x)
shift s n d p x p' e = rw e (grind arith)

index_from-is : (n s : ℕ) (digits : List ℕ) → index_from n s digits ≡ s * n ^ length digits + index_of n digits
index_from-is n s [] = let one : n ^ 0 ≡ 1 = pow-zero n in rw one (omega arith)
index_from-is n s (d ∷ digits) =
    let here : index_from n (s * n + d) digits ≡ (s * n + d) * n ^ length digits + index_of n digits = index_from-is n (s * n + d) digits in
    let low : index_from n (0 * n + d) digits ≡ (0 * n + d) * n ^ length digits + index_of n digits = index_from-is n (0 * n + d) digits in
    here ∙ shift s n d (n ^ length digits) (index_of n digits) (n ^ suc (length digits)) (pow-suc n (length digits)) ∙ ap (λ y. s * n ^ suc (length digits) + y) (sym low)

pub index_of-below : (n : ℕ) (digits : List ℕ) → All (λ v. v < n) digits → index_of n digits < n ^ length digits
index_of-below n [] all = let one : n ^ 0 ≡ 1 = pow-zero n in omega arith
index_of-below n (d ∷ digits) all =
    let rest : index_of n digits < n ^ length digits = index_of-below n digits (All-tail (λ v. v < n) d digits all) in
    let head : d < n = All-head (λ v. v < n) d digits all in
    let low : index_from n (0 * n + d) digits ≡ (0 * n + d) * n ^ length digits + index_of n digits = index_from-is n (0 * n + d) digits in
    let next : n ^ suc (length digits) ≡ n ^ length digits * n = pow-suc n (length digits) in
    let fits : d * n ^ length digits + index_of n digits < n ^ length digits * n = mul-add-lt d (n ^ length digits) (index_of n digits) n head rest in
    let zero_is : 0 * n + d ≡ d = omega arith in
    rw (low, zero_is, next) fits

arguments_from : (n s : ℕ) (digits : List ℕ) → All (λ v. v < n) digits → arguments_at n (length digits) (index_from n s digits) ≡ digits
arguments_from n s [] all = refl
arguments_from n s (d ∷ digits) all =
    let tail : arguments_at n (length digits) (index_from n (s * n + d) digits) ≡ digits = arguments_from n (s * n + d) digits (All-tail (λ v. v < n) d digits all) in
    let head : d < n = All-head (λ v. v < n) d digits all in
    let below : index_of n digits < n ^ length digits = index_of-below n digits (All-tail (λ v. v < n) d digits all) in
    let whole : index_from n (s * n + d) digits ≡ (s * n + d) * n ^ length digits + index_of n digits = index_from-is n (s * n + d) digits in
    let first : index_from n (s * n + d) digits / n ^ length digits % n ≡ d = rw (whole, div-mul-add (s * n + d) (n ^ length digits) (index_of n digits) below) (mod-mul-add s n d head) in
    rw (first, tail) refl

-- the arguments at the index of some arguments are these
pub arguments_at-index : (n k : ℕ) (values : List ℕ) → All (λ v. v < n) values → length values ≡ k → arguments_at n k (index_of n values) ≡ values
arguments_at-index n k values all size = rw (← size) (arguments_from n 0 values all)

index_at : (n k s row : ℕ) → 0 < n → index_from n s (arguments_at n k row) ≡ s * n ^ k + row % n ^ k
index_at n zero s row some = let one : n ^ 0 ≡ 1 = pow-zero n in rw one (omega arith)
index_at n (suc k) s row some =
    let power : 0 < n ^ k = one-le-pow k n some in
    let rest : index_from n (s * n + row / n ^ k % n) (arguments_at n k row) ≡ (s * n + row / n ^ k % n) * n ^ k + row % n ^ k = index_at n k (s * n + row / n ^ k % n) row some in
    let next : n ^ suc k ≡ n ^ k * n = pow-suc n k in
    let comm : n ^ k * n ≡ n * n ^ k = grind arith in
    let parts : row % (n * n ^ k) ≡ (row / n ^ k % n) * n ^ k + row % n ^ k = mod-mul row some power in
    rest ∙ rw (next, comm, parts) (joined s n (row / n ^ k % n) (n ^ k) (row % n ^ k)) where
      joined : (s n d p x : ℕ) → (s * n + d) * p + x ≡ s * (n * p) + (d * p + x)
      joined s n d p x = grind arith

-- the index of the arguments at an index is this index
pub index_of-arguments : (n k row : ℕ) → 0 < n → row < n ^ k → index_of n (arguments_at n k row) ≡ row
index_of-arguments n k row some below = index_at n k 0 row some ∙ rw (mod-eq_of_lt below) (omega arith)

pub length-arguments_at : (n k row : ℕ) → length (arguments_at n k row) ≡ k
length-arguments_at n zero row = refl
length-arguments_at n (suc k) row = ap suc (length-arguments_at n k row)

-- powers of few values are small
pub power_small : (n k most : ℕ) → 0 < n → n ≤ MOST_VALUES → k ≤ most → n ^ k ≤ MOST_VALUES ^ most
power_small n k most some few narrow =
    let up : n ^ k ≤ n ^ most = pow-le-pow_right some narrow in
    let over : n ^ most ≤ MOST_VALUES ^ most = pow-le-pow_left few most in
    omega arith

-- one more digit of an index
pub index_next : (n index k count digit : ℕ) → 0 < n → n ≤ MOST_VALUES → count ≤ MOST_ARGUMENTS → k < count → index < n ^ k → digit < n → (index * n + digit < n ^ (k + 1)) × (index * n + digit ≤ MOST_VALUES ^ MOST_ARGUMENTS)
index_next n index k count digit some few narrow lt below fits =
    let next : n ^ (k + 1) ≡ n ^ k * n = rw add-one (pow-suc n k) in
    let up : index * n + digit < n * n ^ k = mul-add-lt index n digit (n ^ k) below fits in
    let comm : n ^ k * n ≡ n * n ^ k = grind arith in
    let small : n ^ (k + 1) ≤ MOST_VALUES ^ MOST_ARGUMENTS = power_small n (k + 1) MOST_ARGUMENTS some few (omega arith) in
    (rw (next, comm) up, omega (arith, rw (next, comm) at small))
