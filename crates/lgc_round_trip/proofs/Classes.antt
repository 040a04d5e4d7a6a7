-- The classes of printed words: each passes the test that the grammar asks of it.
use Rattle.std.proofs.Common.{◌≡◌, ℕ, ◌^◌, ◌<◌, ◌≤◌, Bool, true, false, cond, List, [], ◌∷◌, Option, Some, None, is_some as found_some, refl, ap, ◌∙◌, arith}
use Rattle.std.specs.Prelude.{codes, ◌&&◌, ◌||◌, ◌==◌, nat_lt}
use Rattle.std.specs.Char.{is_ascii_digit, is_ascii_lowercase, is_ascii_uppercase}
use Rattle.std.specs.List.{list_all}
use Rattle.std.specs.Fmt.{decimal}
use Rattle.std.proofs.lemmas.Bool.Decides.{nat_tests}
use Rattle.lgc_lexer.specs.Forms.{is_word}
use Rattle.lgc_lexer.specs.declared.token.Kind.TheVariants as kind
use Rattle.lgc_print.specs.Text.{is_lower_word}
use Rattle.lgc_tokens.specs.declared.class.Class.{Class}
use Rattle.lgc_tokens.specs.declared.class.Class.TheVariants.{RuleWord, AtWord, OperatorWord, QuantifierWord, AllWord, SomeWord, Zero, LongNumber, Digits, Mixed, Caret, OpenBrace, CloseBrace, OpenSquare, CloseSquare, Comma, Dot, Colon, Semicolon, Slash}
use Rattle.lgc_tokens.specs.Spelled.{Spelled}
use Rattle.lgc_tokens.specs.Numbers.{number_of, number_in, long_number_in}
use Rattle.lgc_rules.specs.Names.{number, is_outside}
use Rattle.lgc_tokens.specs.Classes.{same, is, class_in, class_of, class_of_word, class_of_number, class_of_numeral, class_of_digits, class_of_punct, names, arguments, numbers, zeros, values, is_name, is_number, is_argument, is_zero, is_value}
use Rattle.lgc_tokens.proofs.LowerWords.{word_is_lower}
use Rattle.lgc_round_trip.proofs.Lexing.{Word, word_of}
use Rattle.lgc_round_trip.proofs.Pieces.{kind_of, plain, in_quotes, sign, caret}
use Rattle.lgc_round_trip.proofs.Decimals.{writes_decimal, number_in_decimal}
use Rattle.lgc_round_trip.proofs.Printing.{value_word, symbol_word, numeral}
use Rattle.lgc_round_trip.proofs.Texts.{zero_word}

-- ---- single classes

-- a token of a word of this class
of_class : (c : Class) (w : Word) → same c (class_in w.kind w.text w.before_caret) ≡ true → (t : Spelled) → word_of t ≡ w → is c t ≡ true
unfolding class_of
of_class c w h t e = ap (λ (v : Word). same c (class_in v.kind v.text v.before_caret)) e ∙ h

pub is_rule : (t : Spelled) → word_of t ≡ plain (codes "rule") false → is RuleWord t ≡ true
unfolding class_of_word
is_rule t e = of_class RuleWord (plain (codes "rule") false) refl t e

pub is_at : (t : Spelled) → word_of t ≡ plain (codes "at") false → is AtWord t ≡ true
unfolding class_of_word
is_at t e = of_class AtWord (plain (codes "at") false) refl t e

pub is_operator : (t : Spelled) → word_of t ≡ plain (codes "operator") false → is OperatorWord t ≡ true
unfolding class_of_word
is_operator t e = of_class OperatorWord (plain (codes "operator") false) refl t e

pub is_quantifier : (t : Spelled) → word_of t ≡ plain (codes "quantifier") false → is QuantifierWord t ≡ true
unfolding class_of_word
is_quantifier t e = of_class QuantifierWord (plain (codes "quantifier") false) refl t e

pub is_all : (t : Spelled) → word_of t ≡ plain (codes "all") false → is AllWord t ≡ true
unfolding class_of_word
is_all t e = of_class AllWord (plain (codes "all") false) refl t e

pub is_some : (t : Spelled) → word_of t ≡ plain (codes "some") false → is SomeWord t ≡ true
unfolding class_of_word
is_some t e = of_class SomeWord (plain (codes "some") false) refl t e

pub is_caret : (t : Spelled) → word_of t ≡ caret → is Caret t ≡ true
is_caret t e = of_class Caret caret refl t e

pub is_open_brace : (t : Spelled) → word_of t ≡ sign 123 → is OpenBrace t ≡ true
unfolding class_of_punct
is_open_brace t e = of_class OpenBrace (sign 123) refl t e

pub is_close_brace : (t : Spelled) → word_of t ≡ sign 125 → is CloseBrace t ≡ true
unfolding class_of_punct
is_close_brace t e = of_class CloseBrace (sign 125) refl t e

pub is_open_square : (t : Spelled) → word_of t ≡ sign 91 → is OpenSquare t ≡ true
unfolding class_of_punct
is_open_square t e = of_class OpenSquare (sign 91) refl t e

pub is_close_square : (t : Spelled) → word_of t ≡ sign 93 → is CloseSquare t ≡ true
unfolding class_of_punct
is_close_square t e = of_class CloseSquare (sign 93) refl t e

pub is_comma : (t : Spelled) → word_of t ≡ sign 44 → is Comma t ≡ true
unfolding class_of_punct
is_comma t e = of_class Comma (sign 44) refl t e

pub is_dot : (t : Spelled) → word_of t ≡ sign 46 → is Dot t ≡ true
unfolding class_of_punct
is_dot t e = of_class Dot (sign 46) refl t e

pub is_colon : (t : Spelled) → word_of t ≡ sign 58 → is Colon t ≡ true
unfolding class_of_punct
is_colon t e = of_class Colon (sign 58) refl t e

pub is_semicolon : (t : Spelled) → word_of t ≡ sign 59 → is Semicolon t ≡ true
unfolding class_of_punct
is_semicolon t e = of_class Semicolon (sign 59) refl t e

pub is_slash : (t : Spelled) → word_of t ≡ sign 47 → is Slash t ≡ true
unfolding class_of_punct
is_slash t e = of_class Slash (sign 47) refl t e

pub is_no_literal : (t : Spelled) → word_of t ≡ zero_word → is Zero t ≡ true
unfolding number_in
is_no_literal t e = of_class Zero zero_word refl t e

-- ---- names

words_are_values : (text : List ℕ) → values (class_of_word text) ≡ true
words_are_values text = rw (word_is_lower text) refl

words_are_names : (text : List ℕ) → names (class_of_word text) ≡ true
words_are_names text = rw (word_is_lower text) refl

number_passes_values : (n : ℕ) (flag : Bool) → values (class_of_number n flag) ≡ true
number_passes_values n flag = grind arith

numeral_passes_values : (found : Option ℕ) (text : List ℕ) (flag : Bool) → values (class_of_numeral found text flag) ≡ true
numeral_passes_values None text flag = by (found_some (long_number_in text)) (list_all is_ascii_digit text)
  where
    by : (long alone : Bool) → values (cond long LongNumber (cond alone Digits Mixed)) ≡ true
    by true alone = refl
    by false true = refl
    by false false = refl
numeral_passes_values (Some n) text flag = number_passes_values n flag

digits_are_values : (text : List ℕ) (flag : Bool) → values (class_of_digits text flag) ≡ true
digits_are_values text flag = numeral_passes_values (number_in text) text flag

-- a word that begins as a word does is the name of a value
word_is_value : (l u : Bool) (text : List ℕ) → values (class_in (cond l kind.Lower (cond u kind.Upper kind.Digits)) text false) ≡ true
word_is_value true u text = words_are_values text
word_is_value false true text = refl
word_is_value false false text = digits_are_values text false

plain_is_value : (name : List ℕ) → values (class_in (kind_of name) name false) ≡ true
plain_is_value [] = digits_are_values [] false
plain_is_value (b ∷ name) = word_is_value (is_ascii_lowercase b) (is_ascii_uppercase b || b == 95) (b ∷ name)

value_class : (name : List ℕ) (b : Bool) → values (class_in (cond b (plain name false) (in_quotes name)).kind (cond b (plain name false) (in_quotes name)).text (cond b (plain name false) (in_quotes name)).before_caret) ≡ true
value_class name true = plain_is_value name
value_class name false = refl

values_seen : (t : Spelled) (w : Word) → word_of t ≡ w → is_value t ≡ values (class_in w.kind w.text w.before_caret)
unfolding class_of
values_seen t w e = ap (λ (v : Word). values (class_in v.kind v.text v.before_caret)) e

pub value_passes : (name : List ℕ) (t : Spelled) → word_of t ≡ value_word name → is_value t ≡ true
value_passes name t e = values_seen t (value_word name) e ∙ value_class name (list_all is_word name)

text_of_either : (name : List ℕ) (b : Bool) → (cond b (plain name false) (in_quotes name)).text ≡ name
text_of_either name true = refl
text_of_either name false = refl

pub value_says : (name : List ℕ) (t : Spelled) → word_of t ≡ value_word name → t.text ≡ name
value_says name t e = ap (λ (w : Word). w.text) e ∙ text_of_either name (list_all is_word name)

lower_is_name : (name : List ℕ) → is_lower_word name ≡ true → names (class_in (kind_of name) name false) ≡ true
lower_is_name [] h = absurd cc
lower_is_name (b ∷ name) h = by (is_ascii_lowercase b) h
  where
    by : (l : Bool) → (l && list_all is_word name) ≡ true → names (class_in (cond l kind.Lower (cond (is_ascii_uppercase b || b == 95) kind.Upper kind.Digits)) (b ∷ name) false) ≡ true
    by true h = words_are_names (b ∷ name)
    by false h = absurd cc

symbol_class : (name : List ℕ) (b : Bool) → is_lower_word name ≡ b → names (class_in (cond b (plain name false) (in_quotes name)).kind (cond b (plain name false) (in_quotes name)).text (cond b (plain name false) (in_quotes name)).before_caret) ≡ true
symbol_class name true h = lower_is_name name h
symbol_class name false h = refl

names_seen : (t : Spelled) (w : Word) → word_of t ≡ w → is_name t ≡ names (class_in w.kind w.text w.before_caret)
unfolding class_of
names_seen t w e = ap (λ (v : Word). names (class_in v.kind v.text v.before_caret)) e

pub symbol_passes : (name : List ℕ) (t : Spelled) → word_of t ≡ symbol_word name → is_name t ≡ true
symbol_passes name t e = names_seen t (symbol_word name) e ∙ symbol_class name (is_lower_word name) refl

pub symbol_says : (name : List ℕ) (t : Spelled) → word_of t ≡ symbol_word name → t.text ≡ name
symbol_says name t e = ap (λ (w : Word). w.text) e ∙ text_of_either name (is_lower_word name)

-- ---- numbers

numbers_seen : (t : Spelled) (w : Word) → word_of t ≡ w → is_number t ≡ numbers (class_in w.kind w.text w.before_caret)
unfolding class_of
numbers_seen t w e = ap (λ (v : Word). numbers (class_in v.kind v.text v.before_caret)) e

number_passes_numbers : (n : ℕ) (flag : Bool) → numbers (class_of_number n flag) ≡ true
number_passes_numbers n flag = grind arith

pub numeral_passes : (n : ℕ) (flag : Bool) → n < 2 ^ 32 → (t : Spelled) → word_of t ≡ numeral n flag → is_number t ≡ true
numeral_passes n flag lt t e =
    numbers_seen t (numeral n flag) e ∙ ap (λ (found : Option ℕ). numbers (class_of_numeral found (decimal n) flag)) (number_in_decimal n lt) ∙ number_passes_numbers n flag

arguments_seen : (t : Spelled) (w : Word) → word_of t ≡ w → is_argument t ≡ arguments (class_in w.kind w.text w.before_caret)
unfolding class_of
arguments_seen t w e = ap (λ (v : Word). arguments (class_in v.kind v.text v.before_caret)) e

number_passes_arguments : (n : ℕ) → arguments (class_of_number n true) ≡ true
number_passes_arguments n = grind arith

-- the number before a caret isn't the clause 0
pub argument_passes : (n : ℕ) → n < 2 ^ 32 → (t : Spelled) → word_of t ≡ numeral n true → is_argument t ≡ true
argument_passes n lt t e =
    arguments_seen t (numeral n true) e ∙ ap (λ (found : Option ℕ). arguments (class_of_numeral found (decimal n) true)) (number_in_decimal n lt) ∙ number_passes_arguments n

-- the 0 that is a quantifier's clause
pub zero_passes : (t : Spelled) → word_of t ≡ zero_word → is_zero t ≡ true
unfolding class_of number_in
zero_passes t e = ap (λ (v : Word). zeros (class_in v.kind v.text v.before_caret)) e

pub numeral_says : (n : ℕ) (flag : Bool) → n < 2 ^ 32 → (t : Spelled) → word_of t ≡ numeral n flag → number t ≡ n
numeral_says n flag lt t e = ap (λ (w : Word). number_of w.text) e ∙ (writes_decimal n (omega arith)).value

within : (m n least most : ℕ) → m ≡ n → least ≤ n → n ≤ most → (nat_lt m least || nat_lt most m) ≡ false
within m n least most e low high = grind (arith, nat_tests)

pub numeral_within : (n least most : ℕ) (flag : Bool) → n < 2 ^ 32 → least ≤ n → n ≤ most → (t : Spelled) → word_of t ≡ numeral n flag → is_outside least most t ≡ false
numeral_within n least most flag lt low high t e = within (number t) n least most (numeral_says n flag lt t e) low high
