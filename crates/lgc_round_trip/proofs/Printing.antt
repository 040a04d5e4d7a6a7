-- The words of printed rules: each printed text is cut into them, wherever it stands.
use Rattle.std.proofs.Common.{◌≡◌, ◌≢◌, ℕ, ◌^◌, ◌<◌, Bool, true, false, cond, List, [], ◌∷◌, ◌++◌, refl, sym, ap, subst, append_assoc, arith}
use Rattle.std.specs.Prelude.{codes, not, ◌&&◌, ◌||◌, ◌==◌}
use Rattle.std.specs.List.{flat_map, list_all, list_any}
use Rattle.std.specs.Char.{is_ascii_digit, is_ascii_lowercase, is_ascii_uppercase}
use Rattle.std.specs.Fmt.{decimal}
use Rattle.std.proofs.lemmas.Bool.{ne_eqb}
use Rattle.lgc_lexer.specs.declared.token.Kind.{Kind}
use Rattle.lgc_lexer.specs.declared.token.Kind.TheVariants.{Lower, Upper, Digits}
use Rattle.lgc_lexer.specs.Forms.{is_word, is_symbol}
use Rattle.lgc_tokens.specs.Spelled.{is_symbol as is_symbol_kind}
use Rattle.lgc_values.specs.Logic.{IsPlainName}
use Rattle.lgc_print.specs.Text.{joined, is_lower_word, quoted, value_text, symbol_text}
use Rattle.lgc_round_trip.proofs.Lexing.{Word, begins_with, Lexes}
use Rattle.lgc_round_trip.proofs.Pieces.{FailsFirst, plain, in_quotes, sign, caret, lex_word, lex_quoted, lex_sign, lex_caret, lex_space, lex_line_feed, comma_taken, dot_taken, slash_taken, colon_taken, semicolon_taken, open_square_taken, close_square_taken, open_brace_taken, close_brace_taken}
use Rattle.lgc_round_trip.proofs.Decimals.{writes_decimal, decimal_is_word, kind_of_decimal}

-- ---- what follows a text

-- what follows goes on no symbol
pub record Starts (rest : List ℕ) (words : List Word) : Type 0 where
  pub symbol : FailsFirst is_symbol rest
  pub caret : begins_with words ≡ false

-- nor a word
pub record Ends (rest : List ℕ) (words : List Word) : Type 0 where
  pub starts : Starts rest words
  pub word : FailsFirst is_word rest

-- Where what follows a text is as F asks for, the text is cut into these words, and they don't go on a symbol.
pub record Prints (F : List ℕ → List Word → Type 0) (text : List ℕ) (words : List Word) : Type 0 where
  pub lexes : (rest : List ℕ) (more : List Word) → F rest more → Lexes rest more → Lexes (text ++ rest) (words ++ more)
  pub starts : (rest : List ℕ) (more : List Word) → Starts (text ++ rest) (words ++ more)

moved : (F : List ℕ → List Word → Type 0) (a b : List ℕ) (v w : List Word) → a ≡ b → v ≡ w → F a v → F b w
moved F a b v w e f h = subst (λ x. F b x) f (subst (λ x. F x v) e h)

pub weaker : (text : List ℕ) (words : List Word) → Prints Starts text words → Prints Ends text words
weaker text words p = record { lexes = λ rest more e. p.lexes rest more e.starts; starts = p.starts }

pub prints_then : (F G : List ℕ → List Word → Type 0) (a b : List ℕ) (v w : List Word) → Prints F a v → Prints G b w → ((rest : List ℕ) (more : List Word) → F (b ++ rest) (w ++ more)) → Prints G (a ++ b) (v ++ w)
prints_then F G a b v w p q follows = record {
  lexes = λ rest more g l. moved Lexes (a ++ (b ++ rest)) ((a ++ b) ++ rest) (v ++ (w ++ more)) ((v ++ w) ++ more) (sym (append_assoc a b rest)) (sym (append_assoc v w more)) (p.lexes (b ++ rest) (w ++ more) (follows rest more) (q.lexes rest more g l));
  starts = λ rest more. moved Starts (a ++ (b ++ rest)) ((a ++ b) ++ rest) (v ++ (w ++ more)) ((v ++ w) ++ more) (sym (append_assoc a b rest)) (sym (append_assoc v w more)) (p.starts (b ++ rest) (w ++ more));
}

-- ---- lists with separators

-- each of these texts has its words
abbrev pub Each : (List ℕ → List Word → Type 0) → List (List ℕ) → List (List Word) → Type 0
Each F [] [] = Unit {0}
Each F (t ∷ ts) (w ∷ ws) = Prints F t w × Each F ts ws
Each F _ _ = ⊥

module _ (F : List ℕ → List Word → Type 0) (separator : List ℕ) (between : List Word) (p : Prints Starts separator between) (follows : (rest : List ℕ) (more : List Word) → F (separator ++ rest) (between ++ more)) where
  abbrev behind : List (List ℕ) → List ℕ
  behind ts = flat_map (λ t. separator ++ t) ts

  abbrev words_behind : List (List Word) → List Word
  words_behind ws = flat_map (λ w. between ++ w) ws

  others : (ts : List (List ℕ)) (ws : List (List Word)) → Each F ts ws → (rest : List ℕ) (more : List Word) → F rest more → Lexes rest more → F (behind ts ++ rest) (words_behind ws ++ more) × Lexes (behind ts ++ rest) (words_behind ws ++ more)
  others [] [] each rest more f l = (f, l)
  others [] (w ∷ ws) each rest more f l = absurd each
  others (t ∷ ts) [] each rest more f l = absurd each
  others (t ∷ ts) (w ∷ ws) each rest more f l =
      let (g, m) = others ts ws each.1 rest more f l in
      let one : separator ++ (t ++ (behind ts ++ rest)) ≡ ((separator ++ t) ++ behind ts) ++ rest = simp append_assoc in
      let two : between ++ (w ++ (words_behind ws ++ more)) ≡ ((between ++ w) ++ words_behind ws) ++ more = simp append_assoc in
      let here : Lexes (t ++ (behind ts ++ rest)) (w ++ (words_behind ws ++ more)) = (each.0).lexes (behind ts ++ rest) (words_behind ws ++ more) g m in
      let starts : Starts (t ++ (behind ts ++ rest)) (w ++ (words_behind ws ++ more)) = (each.0).starts (behind ts ++ rest) (words_behind ws ++ more) in (
        moved F _ _ _ _ one two (follows (t ++ (behind ts ++ rest)) (w ++ (words_behind ws ++ more))),
        moved Lexes _ _ _ _ one two (p.lexes (t ++ (behind ts ++ rest)) (w ++ (words_behind ws ++ more)) starts here),
      )

  pub listed : (t : List ℕ) (ts : List (List ℕ)) (w : List Word) (ws : List (List Word)) → Each F (t ∷ ts) (w ∷ ws) → Prints F (joined separator (t ∷ ts)) (joined between (w ∷ ws))
  listed t ts w ws each = record {
    lexes = λ rest more f l. let (g, m) = others ts ws each.1 rest more f l in moved Lexes _ _ _ _ (sym (append_assoc t (behind ts) rest)) (sym (append_assoc w (words_behind ws) more)) ((each.0).lexes (behind ts ++ rest) (words_behind ws ++ more) g m);
    starts = λ rest more. moved Starts _ _ _ _ (sym (append_assoc t (behind ts) rest)) (sym (append_assoc w (words_behind ws) more)) ((each.0).starts (behind ts ++ rest) (words_behind ws ++ more));
  }

-- ---- names

-- a byte of words is none of some other bytes
none_of : (b : ℕ) → is_word b ≡ true → (bytes : List ℕ) → list_all (λ c. not (is_word c)) bytes ≡ true → list_any (λ c. b == c) bytes ≡ false
none_of b word [] all = refl
none_of b word (c ∷ bytes) all =
    let (other, rest) = both (is_word c) (list_all (λ d. not (is_word d)) bytes) all in
    rw (ne_eqb b c (λ e. let f : is_word c ≡ true = subst (λ (z : ℕ). is_word z ≡ true) e word in absurd cc)) (none_of b word bytes rest)
  where
    both : (u v : Bool) → (not u && v) ≡ true → (u ≡ false) × (v ≡ true)
    both true v e = absurd cc
    both false v e = (refl, e)

word_is_no_symbol : (b : ℕ) → is_word b ≡ true → is_symbol b ≡ false
word_is_no_symbol b word = none_of b word (codes "*+-#&@~^?!$<=>|\\") refl

kind_is_no_symbol : (l u : Bool) (v : Bool) → (is_symbol_kind (cond l Lower (cond u Upper Digits)) && v) ≡ false
kind_is_no_symbol true u v = refl
kind_is_no_symbol false true v = refl
kind_is_no_symbol false false v = refl

pub word_prints : (name : List ℕ) → name ≢ [] → list_all is_word name ≡ true → Prints Ends name (plain name false ∷ [])
word_prints [] some all = absurd (some refl)
word_prints (b ∷ name) some all = record {
  lexes = λ rest more e l. lex_word (b ∷ name) rest more false some all e.word e.starts.caret l;
  starts = λ rest more. record { symbol = word_is_no_symbol b (first (is_word b) (list_all is_word name) all); caret = kind_is_no_symbol (is_ascii_lowercase b) (is_ascii_uppercase b || b == 95) _ };
}
  where
    first : (u v : Bool) → (u && v) ≡ true → u ≡ true
    first true v e = refl
    first false v e = absurd cc

quoted_prints : (name : List ℕ) → IsPlainName name → Prints Ends (quoted name) (in_quotes name ∷ [])
quoted_prints name named = record {
  lexes = λ rest more e l. lex_quoted name rest more false named e.starts.caret l;
  starts = λ rest more. record { symbol = refl; caret = refl };
}

-- the name of a value, as it is or in quotes
abbrev pub value_word : List ℕ → Word
value_word name = cond (list_all is_word name) (plain name false) (in_quotes name)

pub value_prints : (name : List ℕ) → IsPlainName name → Prints Ends (value_text name) (value_word name ∷ [])
value_prints name named = by (list_all is_word name) refl
  where
    by : (v : Bool) → list_all is_word name ≡ v → Prints Ends (cond v name (quoted name)) (cond v (plain name false) (in_quotes name) ∷ [])
    by true e = word_prints name named.nonempty e
    by false e = quoted_prints name named

-- the name of an operator or a quantifier, as it is or in quotes
abbrev pub symbol_word : List ℕ → Word
symbol_word name = cond (is_lower_word name) (plain name false) (in_quotes name)

pub lower_is_word : (name : List ℕ) → is_lower_word name ≡ true → list_all is_word name ≡ true
lower_is_word [] h = refl
lower_is_word (b ∷ name) h = by (is_ascii_lowercase b) (list_all is_word name) refl h
  where
    last : (u v w : Bool) → v ≡ true → ((u || v) || w) ≡ true
    last true v w e = refl
    last false true w e = refl
    last false false w e = absurd cc

    by : (u v : Bool) → is_ascii_lowercase b ≡ u → (u && v) ≡ true → (is_word b && v) ≡ true
    by false v e h = absurd cc
    by true v e h = let word : is_word b ≡ true = last (is_ascii_digit b || is_ascii_uppercase b) (is_ascii_lowercase b) (b == 95) e in rw word h

pub symbol_prints : (name : List ℕ) → IsPlainName name → Prints Ends (symbol_text name) (symbol_word name ∷ [])
symbol_prints name named = by (is_lower_word name) refl
  where
    by : (v : Bool) → is_lower_word name ≡ v → Prints Ends (cond v name (quoted name)) (cond v (plain name false) (in_quotes name) ∷ [])
    by true e = word_prints name named.nonempty (lower_is_word name e)
    by false e = quoted_prints name named

-- ---- numbers

abbrev pub numeral : ℕ → Bool → Word
numeral n flag = record { kind = Digits; text = decimal n; before_caret = flag }

plain_numeral : (n : ℕ) (flag : Bool) → n < 2 ^ 32 → plain (decimal n) flag ≡ numeral n flag
plain_numeral n flag lt = ap (λ (k : Kind). record { kind = k; text = decimal n; before_caret = flag }) (kind_of_decimal n (omega arith))

pub number_prints : (n : ℕ) → n < 2 ^ 32 → Prints Ends (decimal n) (numeral n false ∷ [])
number_prints n lt = subst (λ w. Prints Ends (decimal n) (w ∷ [])) (plain_numeral n false lt) (word_prints (decimal n) (writes_decimal n (omega arith)).some (decimal_is_word n (omega arith)))

-- a number and the caret behind it
pub caret_prints : (n : ℕ) → n < 2 ^ 32 → Prints Starts (decimal n ++ codes "^") (numeral n true ∷ caret ∷ [])
caret_prints n lt = record {
  lexes = λ rest more s l. moved Lexes _ _ _ _ (sym (append_assoc (decimal n) (codes "^") rest)) (ap (λ w. w ∷ caret ∷ more) (plain_numeral n true lt)) (lex_word (decimal n) (94 ∷ rest) (caret ∷ more) true (writes_decimal n (omega arith)).some (decimal_is_word n (omega arith)) refl refl (lex_caret rest more s.symbol s.caret l));
  starts = λ rest more. record {
    symbol = subst (λ t. FailsFirst is_symbol t) (sym (append_assoc (decimal n) (codes "^") rest)) ((number_prints n lt).starts (94 ∷ rest) []).symbol;
    caret = refl;
  };
}

-- ---- fixed texts

pub rule_prints : Prints Starts (codes "rule ") (plain (codes "rule") false ∷ [])
rule_prints = record {
  lexes = λ rest more s l. lex_word (codes "rule") (32 ∷ rest) more false (λ e. absurd cc) refl refl s.caret (lex_space rest more l);
  starts = λ rest more. record { symbol = refl; caret = refl };
}

pub operator_prints : Prints Starts (codes "operator ") (plain (codes "operator") false ∷ [])
operator_prints = record {
  lexes = λ rest more s l. lex_word (codes "operator") (32 ∷ rest) more false (λ e. absurd cc) refl refl s.caret (lex_space rest more l);
  starts = λ rest more. record { symbol = refl; caret = refl };
}

pub quantifier_prints : Prints Starts (codes "quantifier ") (plain (codes "quantifier") false ∷ [])
quantifier_prints = record {
  lexes = λ rest more s l. lex_word (codes "quantifier") (32 ∷ rest) more false (λ e. absurd cc) refl refl s.caret (lex_space rest more l);
  starts = λ rest more. record { symbol = refl; caret = refl };
}

pub all_prints : Prints Ends (codes "all") (plain (codes "all") false ∷ [])
all_prints = word_prints (codes "all") (λ e. absurd cc) refl

pub some_prints : Prints Ends (codes "some") (plain (codes "some") false ∷ [])
some_prints = word_prints (codes "some") (λ e. absurd cc) refl

pub colon_prints : Prints Starts (codes ": ") (sign 58 ∷ [])
colon_prints = record {
  lexes = λ rest more s l. lex_sign 58 _ more false (colon_taken _) s.caret (lex_space rest more l);
  starts = λ rest more. record { symbol = refl; caret = refl };
}

pub at_prints : Prints Starts (codes " at ") (plain (codes "at") false ∷ [])
at_prints = record {
  lexes = λ rest more s l. lex_space _ _ (lex_word (codes "at") (32 ∷ rest) more false (λ e. absurd cc) refl refl s.caret (lex_space rest more l));
  starts = λ rest more. record { symbol = refl; caret = refl };
}

pub slash_prints : Prints Starts (codes "/") (sign 47 ∷ [])
slash_prints = record {
  lexes = λ rest more s l. lex_sign 47 rest more false (slash_taken rest s.symbol) s.caret l;
  starts = λ rest more. record { symbol = refl; caret = refl };
}

pub open_brace_prints : Prints Starts (codes "{") (sign 123 ∷ [])
open_brace_prints = record {
  lexes = λ rest more s l. lex_sign 123 rest more false (open_brace_taken rest) s.caret l;
  starts = λ rest more. record { symbol = refl; caret = refl };
}

pub close_brace_prints : Prints Starts (codes "}") (sign 125 ∷ [])
close_brace_prints = record {
  lexes = λ rest more s l. lex_sign 125 rest more false (close_brace_taken rest) s.caret l;
  starts = λ rest more. record { symbol = refl; caret = refl };
}

pub comma_prints : Prints Starts (codes ",") (sign 44 ∷ [])
comma_prints = record {
  lexes = λ rest more s l. lex_sign 44 rest more false (comma_taken rest) s.caret l;
  starts = λ rest more. record { symbol = refl; caret = refl };
}

pub comma_space_prints : Prints Starts (codes ", ") (sign 44 ∷ [])
comma_space_prints = record {
  lexes = λ rest more s l. lex_sign 44 _ more false (comma_taken _) s.caret (lex_space rest more l);
  starts = λ rest more. record { symbol = refl; caret = refl };
}

pub semicolon_prints : Prints Starts (codes "; ") (sign 59 ∷ [])
semicolon_prints = record {
  lexes = λ rest more s l. lex_sign 59 _ more false (semicolon_taken _) s.caret (lex_space rest more l);
  starts = λ rest more. record { symbol = refl; caret = refl };
}

pub opens_prints : Prints Starts (codes ": [") (sign 58 ∷ sign 91 ∷ [])
opens_prints = record {
  lexes = λ rest more s l. lex_sign 58 _ _ false (colon_taken _) refl (lex_space _ _ (lex_sign 91 rest more false (open_square_taken rest) s.caret l));
  starts = λ rest more. record { symbol = refl; caret = refl };
}

pub closes_prints : Prints Starts (codes "].\n") (sign 93 ∷ sign 46 ∷ [])
closes_prints = record {
  lexes = λ rest more s l. lex_sign 93 _ _ false (close_square_taken _) refl (lex_sign 46 _ more false (dot_taken _) s.caret (lex_line_feed rest more l));
  starts = λ rest more. record { symbol = refl; caret = refl };
}
