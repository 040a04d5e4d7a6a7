-- Tuples of values, and the index of the row that has them.
use Rattle.std.proofs.Common.{◌≡◌, ℕ, zero, suc, ◌+◌, ◌*◌, ◌/◌, ◌%◌, ◌^◌, ◌<◌, ◌≤◌, List, [], ◌∷◌, length, slice_index, refl, sym, ◌∙◌, ap, arith}
use Rattle.std.specs.List.{AllByRecursion, fold}
use Rattle.std.proofs.Math.Nat.{div-div-eq-div-mul, pow-suc, pow-zero, div-lt_iff_lt-mul}
use Rattle.std.proofs.lemmas.Nat.{div-mul-add, mod-mul-add, mod_below}
use Rattle.lgc_values.specs.Logic.{arguments_at}
use Rattle.lgc_values.proofs.Digits.{power_positive}
use Rattle.lgc_syntax.specs.Values.{row_index}

pub length-arguments_at : (n k row : ℕ) → length (arguments_at n k row) ≡ k
length-arguments_at n zero row = refl
length-arguments_at n (suc k) row = ap suc (length-arguments_at n k row)

-- each value of a tuple is below n
pub arguments_below : (n k row j : ℕ) → 0 < n → slice_index (arguments_at n k row) j < n
arguments_below n zero row j some = some
arguments_below n (suc k) row zero some = mod_below (row / n ^ k) n some
arguments_below n (suc k) row (suc j) some = arguments_below n k row j some

abbrev digit : ℕ → ℕ → ℕ → ℕ
digit n index v = index * n + v

-- the number before the digits
before_digits : (n a : ℕ) (tuple : List ℕ) → AllByRecursion (λ v. v < n) tuple → fold (digit n) a tuple / n ^ length tuple ≡ a
before_digits n a [] below = rw pow-zero (omega arith)
before_digits n a (v ∷ tuple) below =
    ap (λ d. fold (digit n) (a * n + v) tuple / d) (pow-suc n (length tuple))
    ∙ sym (div-div-eq-div-mul (fold (digit n) (a * n + v) tuple) (n ^ length tuple) n)
    ∙ ap (λ q. q / n) (before_digits n (a * n + v) tuple below.1)
    ∙ div-mul-add a n v below.0

digits_of : (n a : ℕ) (tuple : List ℕ) → AllByRecursion (λ v. v < n) tuple → arguments_at n (length tuple) (fold (digit n) a tuple) ≡ tuple
digits_of n a [] below = refl
digits_of n a (v ∷ tuple) below =
    let here : fold (digit n) (a * n + v) tuple / n ^ length tuple % n ≡ v = ap (λ q. q % n) (before_digits n (a * n + v) tuple below.1) ∙ mod-mul-add a n v below.0 in
    ap (λ w. w ∷ arguments_at n (length tuple) (fold (digit n) (a * n + v) tuple)) here ∙ ap (λ rest. v ∷ rest) (digits_of n (a * n + v) tuple below.1)

-- the tuple that has the index of a tuple
pub arguments_at-row_index : (n : ℕ) (tuple : List ℕ) → AllByRecursion (λ v. v < n) tuple → arguments_at n (length tuple) (row_index n tuple) ≡ tuple
arguments_at-row_index n tuple below = digits_of n 0 tuple below

pub row_index-below : (n : ℕ) (tuple : List ℕ) → 2 ≤ n → AllByRecursion (λ v. v < n) tuple → row_index n tuple < n ^ length tuple
row_index-below n tuple low below =
    let none : row_index n tuple / n ^ length tuple < 1 = omega (arith, before_digits n 0 tuple below) in
    omega (arith, (div-lt_iff_lt-mul (power_positive n (length tuple) low)).0 none)
