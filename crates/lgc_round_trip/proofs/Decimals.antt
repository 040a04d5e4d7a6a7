-- The decimal digits of a number: they are digits alone, there are some, and they write the number.
use Rattle.std.proofs.Common.{◌≡◌, ◌≢◌, ℕ, zero, suc, ◌+◌, ◌-◌, ◌*◌, ◌/◌, ◌%◌, ◌^◌, ◌<◌, ◌≤◌, Bool, true, false, List, [], ◌∷◌, ◌++◌, length, get_or, Some, refl, ap, ◌∙◌, arith}
use Rattle.std.specs.Prelude.{◌&&◌, ◌||◌, ◌==◌, nat_lt, nat_le}
use Rattle.std.specs.List.{list_all}
use Rattle.std.specs.Char.{is_ascii_digit, is_ascii_lowercase, is_ascii_uppercase}
use Rattle.std.specs.Fmt.{decimal}
use Rattle.std.proofs.lemmas.Bool.{ne_eqb}
use Rattle.std.proofs.lemmas.Bool.Decides.{nat_tests}
use Rattle.std.proofs.lemmas.Grind.{fold-append}
use Rattle.std.proofs.lemmas.List.Folds.{list_all-append}
use Rattle.std.proofs.lemmas.Fmt.{decimal_by_steps, decimal_digit, first_decimal}
use Rattle.lgc_lexer.specs.Forms.{is_word}
use Rattle.lgc_lexer.specs.declared.token.Kind.TheVariants.{Digits}
use Rattle.lgc_tokens.specs.Numbers.{number_of, number_in, has_leading_zero}
use Rattle.lgc_round_trip.proofs.Pieces.{kind_of}

-- digits that write a number
pub record Writes (n : ℕ) (digits : List ℕ) : Type 0 where
  pub are_digits : list_all is_ascii_digit digits ≡ true
  pub value : number_of digits ≡ n
  pub some : digits ≢ []

digit_at : (k : ℕ) → k < 10 → is_ascii_digit (48 + k) ≡ true
digit_at k lt = grind (arith, nat_tests)

writes_one : (n : ℕ) → n < 10 → Writes n ((48 + n) ∷ [])
writes_one n lt = record { are_digits = rw (digit_at n lt) refl; value = omega arith; some = λ e. absurd cc }

writes_more : (n : ℕ) (digits : List ℕ) → 10 ≤ n → Writes (n / 10) digits → Writes n (digits ++ (48 + n % 10) ∷ [])
writes_more n digits le w =
    let digit : n % 10 < 10 = omega arith in
    let value : number_of digits ≡ n / 10 = w.value in
    let more : number_of (digits ++ (48 + n % 10) ∷ []) ≡ 10 * number_of digits + (48 + n % 10 - 48) = fold-append (λ m d. 10 * m + (d - 48)) 0 digits ((48 + n % 10) ∷ []) in
    record {
      are_digits = list_all-append is_ascii_digit digits ((48 + n % 10) ∷ []) ∙ rw (w.are_digits, digit_at (n % 10) digit) refl;
      value = omega arith;
      some = not_nil digits;
    }
  where
    not_nil : (xs : List ℕ) → xs ++ (48 + n % 10) ∷ [] ≢ []
    not_nil [] e = absurd cc
    not_nil (x ∷ xs) e = absurd cc

pub writes_decimal : (n : ℕ) → n < 2 ^ 64 → Writes n (decimal n)
writes_decimal n lt = decimal_by_steps Writes writes_one writes_more n lt

-- ---- as a token

digit_is_word : (b : ℕ) → is_ascii_digit b ≡ true → is_word b ≡ true
digit_is_word b h = rw h refl

digits_are_word : (xs : List ℕ) → list_all is_ascii_digit xs ≡ true → list_all is_word xs ≡ true
digits_are_word [] h = refl
digits_are_word (x ∷ xs) h =
    let (one, others) = both (is_ascii_digit x) (list_all is_ascii_digit xs) h in
    rw (digit_is_word x one) (digits_are_word xs others)
  where
    both : (u v : Bool) → (u && v) ≡ true → (u ≡ true) × (v ≡ true)
    both true v e = (refl, e)
    both false v e = absurd cc

pub decimal_is_word : (n : ℕ) → n < 2 ^ 64 → list_all is_word (decimal n) ≡ true
decimal_is_word n lt = digits_are_word (decimal n) (writes_decimal n lt).are_digits

not_lower : (b : ℕ) → is_ascii_digit b ≡ true → is_ascii_lowercase b ≡ false
not_lower b h = grind (arith, nat_tests)

not_upper : (b : ℕ) → is_ascii_digit b ≡ true → (is_ascii_uppercase b || b == 95) ≡ false
not_upper b h = grind (arith, nat_tests)

kind_of_digits : (xs : List ℕ) → list_all is_ascii_digit xs ≡ true → kind_of xs ≡ Digits
kind_of_digits [] h = refl
kind_of_digits (x ∷ xs) h = let one = first (is_ascii_digit x) (list_all is_ascii_digit xs) h in rw (not_lower x one, not_upper x one) refl
  where
    first : (u v : Bool) → (u && v) ≡ true → u ≡ true
    first true v e = refl
    first false v e = absurd cc

pub kind_of_decimal : (n : ℕ) → n < 2 ^ 64 → kind_of (decimal n) ≡ Digits
kind_of_decimal n lt = kind_of_digits (decimal n) (writes_decimal n lt).are_digits

-- ---- as a number

pub no_leading_zero : (n : ℕ) → n < 2 ^ 64 → has_leading_zero (decimal n) ≡ false
no_leading_zero zero lt = rw (decimal_digit 0 (omega arith)) refl
no_leading_zero (suc n) lt =
    let high : 48 < get_or (decimal (suc n)) 0 0 = first_decimal (suc n) (omega arith) lt in
    rw (ne_eqb (get_or (decimal (suc n)) 0 0) 48 (λ e. omega arith)) (last (nat_lt 1 (length (decimal (suc n)))))
  where
    last : (u : Bool) → (u && false) ≡ false
    last true = refl
    last false = refl

pub number_in_decimal : (n : ℕ) → n < 2 ^ 32 → number_in (decimal n) ≡ Some n
unfolding number_in
number_in_decimal n lt =
    let w = writes_decimal n (omega arith) in
    let most : nat_le (number_of (decimal n)) 4294967295 ≡ true = small (number_of (decimal n)) n w.value lt in
    rw (w.are_digits, no_leading_zero n (omega arith), most) (ap Some w.value)
  where
    small : (m n : ℕ) → m ≡ n → n < 2 ^ 32 → nat_le m 4294967295 ≡ true
    small m n e lt = grind (arith, nat_tests)
