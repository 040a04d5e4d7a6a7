-- A token of the class of a number writes one.
use Rattle.std.proofs.Common.{◌≡◌, ℕ, Bool, true, false, cond, List, None, is_some, refl, arith}
use Rattle.std.proofs.lemmas.Bool.Decides.{nat_tests}
use Rattle.std.specs.List.{list_all}
use Rattle.std.specs.Char.{is_ascii_digit}
use Rattle.lgc_grammar.proofs.Readers.{or_left, or_right}
use Rattle.lgc_grammar.proofs.Classes.{apart}
use Rattle.lgc_lexer.specs.declared.token.Kind.{Kind}
use Rattle.lgc_lexer.specs.declared.token.Kind.TheVariants as kind
use Rattle.lgc_tokens.specs.declared.class.Class.{Class}
use Rattle.lgc_tokens.specs.declared.class.Class.TheVariants.{Upper, Zero, LongNumber, Digits, Mixed, Quoted, Text}
use Rattle.lgc_tokens.specs.declared.terminal.Terminal.{Terminal}
use Rattle.lgc_tokens.specs.declared.terminal.Terminal.TheVariants as terminal
use Rattle.lgc_tokens.specs.Numbers.{number_in, long_number_in}
use Rattle.lgc_tokens.specs.Spelled.{Spelled}
use Rattle.lgc_tokens.specs.Classes.{same, is_lower, arguments, numbers, long_numbers, digits_alone, is_long_number, class_in, class_of, class_of_word, class_of_digits, class_of_symbol, class_of_punct, is_a, AsksForNumber}
use Rattle.lgc_tokens.proofs.Tables.{table}
use Rattle.lgc_tokens.proofs.LowerWords.{word_is_lower}

choose : (test : Class → Bool) (b : Bool) (c d : Class) → test c ≡ false → test d ≡ false → test (cond b c d) ≡ false
choose test true c d h g = h
choose test false c d h g = g

-- ---- without digits no token is of the class of a number

word_is_none : (text : List ℕ) → digits_alone (class_of_word text) ≡ false
word_is_none text = apart table (λ (c : Class). c) is_lower digits_alone refl (class_of_word text) (word_is_lower text)

symbol_is_none : (text : List ℕ) → digits_alone (class_of_symbol text) ≡ false
symbol_is_none text = grind arith

punct_is_none : (text : List ℕ) → digits_alone (class_of_punct text) ≡ false
unfolding class_of_punct
punct_is_none text = grind arith

module _ (test : Class → Bool) (narrow : (c : Class) → digits_alone c ≡ false → test c ≡ false) where
  none_in : (k : Kind) (text : List ℕ) (caret : Bool) → test (class_of_digits text caret) ≡ false → test (class_in k text caret) ≡ false
  none_in kind.Lower text caret h = narrow (class_of_word text) (word_is_none text)
  none_in kind.Upper text caret h = narrow Upper refl
  none_in kind.Digits text caret h = h
  none_in kind.Quoted text caret h = narrow Quoted refl
  none_in kind.Text text caret h = narrow Text refl
  none_in kind.Symbol text caret h = narrow (class_of_symbol text) (symbol_is_none text)
  none_in kind.Punct text caret h = narrow (class_of_punct text) (punct_is_none text)

long_narrow : (c : Class) → digits_alone c ≡ false → long_numbers c ≡ false
long_narrow c h = or_left (long_numbers c) (same Digits c) h

narrow : (c : Class) → digits_alone c ≡ false → numbers c ≡ false
narrow c h = or_left (numbers c) (same LongNumber c) (long_narrow c h)

-- ---- without a number in its text a token isn't of the class of one

pub no_number : (t : Spelled) → number_in t.text ≡ None → numbers (class_of t) ≡ false
unfolding class_of
no_number t e = none_in numbers narrow t.token.kind t.text t.before_caret (rw e (others (is_some (long_number_in t.text)) (list_all is_ascii_digit t.text)))
  where
    others : (long alone : Bool) → numbers (cond long LongNumber (cond alone Digits Mixed)) ≡ false
    others long alone = choose numbers long LongNumber _ refl (choose numbers alone Digits Mixed refl refl)

pub asked_number : (a : Terminal) (t : Spelled) → AsksForNumber a → is_a a t ≡ true → number_in t.text ≡ None → ⊥
asked_number terminal.Number t h is e = let none = no_number t e in cc
asked_number terminal.Argument t h is e =
    let none = or_right (same Zero (class_of t)) (arguments (class_of t)) (no_number t e) in
    cc
asked_number (terminal.Only c) t h is e = h
asked_number terminal.Name t h is e = h
asked_number a t h is e = h

-- what is too large for a long number is too large for a number
none_below : (text : List ℕ) → long_number_in text ≡ None → number_in text ≡ None
unfolding long_number_in number_in
none_below text e = grind (arith, nat_tests)

pub asked_long_number : (t : Spelled) → is_long_number t ≡ true → long_number_in t.text ≡ None → ⊥
unfolding class_of
asked_long_number t is e =
    let others : long_numbers (cond (list_all is_ascii_digit t.text) Digits Mixed) ≡ false = choose long_numbers (list_all is_ascii_digit t.text) Digits Mixed refl refl in
    let none = none_in long_numbers long_narrow t.token.kind t.text t.before_caret (rw (none_below t.text e, e) others) in
    cc
