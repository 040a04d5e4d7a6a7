-- Numbers and positions in texts, and the tests that their tokens pass.
use Rattle.std.proofs.Common.{◌≡◌, ℕ, ◌^◌, ◌<◌, Bool, true, List, [], ◌∷◌, Option, Some, None, is_some, refl, sym, ap, subst, ◌∙◌, arith}
use Rattle.std.specs.Prelude.{nat_le}
use Rattle.std.specs.Fmt.{decimal}
use Rattle.std.proofs.lemmas.Bool.Decides.{nat_tests}
use Rattle.lgc_lexer.specs.declared.token.Kind.{Kind}
use Rattle.lgc_lexer.specs.declared.token.Kind.TheVariants.{Digits}
use Rattle.lgc_tokens.specs.Numbers.{number_of, number_in, long_number_in}
use Rattle.lgc_tokens.specs.Classes.{long_numbers, class_of_number, class_of_numeral}
use Rattle.lgc_formulas.specs.Setting.{Setting}
use Rattle.lgc_report_reader.specs.Reported.{Reported, spelled_of, number, is_number, is_position}
use Rattle.lgc_report_reader.specs.ReportGrammar.{NumberHere, Position}
use Rattle.lgc_round_trip.proofs.Lexing.{word_of}
use Rattle.lgc_round_trip.proofs.Decimals.{writes_decimal, no_leading_zero, decimal_is_word, kind_of_decimal}
use Rattle.lgc_round_trip.proofs.Classes.{numeral_passes}
use Rattle.lgc_round_trip.proofs.Printing.{numeral}
use Rattle.lgc_formula_trip.proofs.Cuts.{Lexeme, lexeme, EndsWord, Cut, cut_word}
use Rattle.lgc_formula_trip.proofs.Tokens.{SpelledAs, by_class}
use Rattle.lgc_report_trip.specs.WellFormed.{IsNumber, IsLong}
use Rattle.lgc_report_trip.proofs.Printed.{Printed, printed_one}

abbrev digits : ℕ → Lexeme
digits n = lexeme Digits (decimal n)

cut_decimal : (n : ℕ) → IsLong n → Cut EndsWord (decimal n) (digits n ∷ [])
cut_decimal n lt = subst (λ (k : Kind). Cut EndsWord (decimal n) (lexeme k (decimal n) ∷ [])) (kind_of_decimal n lt) (cut_word (decimal n) (writes_decimal n lt).some (decimal_is_word n lt))

says_number : (n : ℕ) → IsLong n → (t : Reported) → SpelledAs (spelled_of t) (digits n) → n ≡ number t
says_number n lt t r = sym (ap number_of r.1 ∙ (writes_decimal n lt).value)

-- ---- positions

long_decimal : (n : ℕ) → IsLong n → long_number_in (decimal n) ≡ Some n
unfolding long_number_in
long_decimal n lt =
    let w = writes_decimal n lt in
    let most : nat_le (number_of (decimal n)) 18446744073709551615 ≡ true = small (number_of (decimal n)) n w.value lt in
    rw (w.are_digits, no_leading_zero n lt, most) (ap Some w.value)
  where
    small : (m n : ℕ) → m ≡ n → n < 2 ^ 64 → nat_le m 18446744073709551615 ≡ true
    small m n e lt = grind (arith, nat_tests)

number_is_long : (n : ℕ) (flag : Bool) → long_numbers (class_of_number n flag) ≡ true
number_is_long n flag = grind arith

numeral_is_long : (found : Option ℕ) (text : List ℕ) (flag : Bool) → is_some (long_number_in text) ≡ true → long_numbers (class_of_numeral found text flag) ≡ true
numeral_is_long (Some n) text flag long = number_is_long n flag
numeral_is_long None text flag long = rw long refl

passes_position : (n : ℕ) → IsLong n → (t : Reported) → SpelledAs (spelled_of t) (digits n) → is_position t ≡ true
passes_position n lt t r = by_class long_numbers (digits n) (λ flag. numeral_is_long (number_in (decimal n)) (decimal n) flag (ap is_some (long_decimal n lt))) (spelled_of t) r

pub position_printed : (s : Setting) (n : ℕ) → IsLong n → Printed s EndsWord Position n (decimal n)
position_printed s n lt = printed_one s EndsWord number is_position n (decimal n) (digits n) (cut_decimal n lt) (λ t r. (says_number n lt t r, passes_position n lt t r))

-- ---- numbers

passes_number : (n : ℕ) → IsNumber n → (t : Reported) → SpelledAs (spelled_of t) (digits n) → is_number t ≡ true
passes_number n lt t r =
    let flag : Bool = (spelled_of t).before_caret in
    let same : word_of (spelled_of t) ≡ numeral n flag = ap (λ (k : Kind). record { kind = k; text = (spelled_of t).text; before_caret = flag }) r.0 ∙ ap (λ (x : List ℕ). record { kind = Digits; text = x; before_caret = flag }) r.1 in
    numeral_passes n flag lt (spelled_of t) same

pub number_printed : (s : Setting) (n : ℕ) → IsNumber n → Printed s EndsWord NumberHere n (decimal n)
number_printed s n lt =
    let long : IsLong n = omega (arith, lt) in
    printed_one s EndsWord number is_number n (decimal n) (digits n) (cut_decimal n long) (λ t r. (says_number n long t r, passes_number n lt t r))
