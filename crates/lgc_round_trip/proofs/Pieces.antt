-- The tokens that printed rules have: where a text begins with a name, a number, a caret, a sign or a blank, it is cut there.
use Rattle.std.proofs.Common.{◌≡◌, ◌≢◌, ℕ, ◌+◌, ◌≤◌, Bool, true, false, cond, List, [], ◌∷◌, ◌++◌, length, drop, Result, refl, sym, subst, append_assoc, append-nil, arith, length-append}
use Rattle.std.specs.Prelude.{All, ◌&&◌, ◌||◌, ◌==◌, nat_lt}
use Rattle.std.specs.List.{prefix_len, list_all}
use Rattle.std.specs.Char.{is_ascii_digit, is_ascii_lowercase, is_ascii_uppercase}
use Rattle.std.proofs.lemmas.Bool.{ne_eqb, lt-ltb}
use Rattle.std.proofs.lemmas.Bool.Decides.{nat_tests}
use Rattle.std.proofs.lemmas.List.{drop_at}
use Rattle.std.proofs.lemmas.List.Elements.{All-head, All-tail}
use Rattle.lgc_lexer.specs.declared.token.Kind.{Kind}
use Rattle.lgc_lexer.specs.declared.token.Kind.TheVariants.{Lower, Upper, Digits, Quoted, Symbol, Punct}
use Rattle.lgc_lexer.specs.declared.token.Token.{Token}
use Rattle.lgc_lexer.specs.declared.fault.LexFault.{LexFault}
use Rattle.lgc_lexer.specs.Forms.{is_word, is_symbol, is_quotable}
use Rattle.lgc_lexer.specs.Tokens.{piece_of, tokens_after, then_token}
use Rattle.lgc_lexer.specs.Spans.{quote_len}
use Rattle.lgc_values.specs.Logic.{IsPlainName}
use Rattle.lgc_print.specs.Text.{quoted}
use Rattle.lgc_round_trip.proofs.Lexing.{Word, begins_with, Lexes, HasContent, IsTaken, IsBlankByte, lex_token, lex_blank}

-- the first byte, if there is one, fails the test
abbrev pub FailsFirst : (ℕ → Bool) → List ℕ → Type 0
FailsFirst test [] = Unit {0}
FailsFirst test (c ∷ _) = test c ≡ false

and_left : (u v : Bool) → (u && v) ≡ true → u ≡ true
and_left true v e = refl
and_left false v e = absurd cc

and_right : (u v : Bool) → (u && v) ≡ true → v ≡ true
and_right true v e = e
and_right false v e = absurd cc

-- a number that passes a test isn't one that fails it
differs : (test : ℕ → Bool) (b c : ℕ) → test b ≡ true → test c ≡ false → (b == c) ≡ false
differs test b c h g = ne_eqb b c (λ e. let f : test c ≡ true = subst (λ (z : ℕ). test z ≡ true) e h in absurd cc)

differs_back : (test : ℕ → Bool) (b c : ℕ) → test b ≡ false → test c ≡ true → (b == c) ≡ false
differs_back test b c h g = ne_eqb b c (λ e. let f : test c ≡ false = subst (λ (z : ℕ). test z ≡ false) e h in absurd cc)

-- bytes that pass a test, and then one that fails it
prefix_runs : (p : ℕ → Bool) (xs rest : List ℕ) → list_all p xs ≡ true → FailsFirst p rest → prefix_len p (xs ++ rest) ≡ length xs
prefix_runs p [] [] all next = refl
prefix_runs p [] (c ∷ rest) all next = rw next refl
prefix_runs p (x ∷ xs) rest all next =
    let here : p x ≡ true = and_left (p x) (list_all p xs) all in
    let more : prefix_len p (xs ++ rest) ≡ length xs = prefix_runs p xs rest (and_right (p x) (list_all p xs) all) next in
    rw (here, more) (omega arith)

-- ---- words

-- the kind of a word that begins with a byte
abbrev pub kind_at : ℕ → Kind
kind_at b = cond (is_ascii_lowercase b) Lower (cond (is_ascii_uppercase b || b == 95) Upper Digits)

abbrev pub kind_of : List ℕ → Kind
kind_of [] = Digits
kind_of (b ∷ _) = kind_at b

-- a word as it is
abbrev pub plain : List ℕ → Bool → Word
plain name flag = record { kind = kind_of name; text = name; before_caret = flag }

digit_else : (d u l s : Bool) → (((d || u) || l) || s) ≡ true → l ≡ false → (u || s) ≡ false → d ≡ true
digit_else true u l s h lower upper = refl
digit_else false true l s h lower upper = absurd cc
digit_else false false true s h lower upper = absurd cc
digit_else false false false true h lower upper = absurd cc
digit_else false false false false h lower upper = absurd cc

word_gives : (b : ℕ) (rest : List ℕ) (at : ℕ) (after : ℕ → Result (List Token) LexFault) (l u : Bool) → is_word b ≡ true → is_ascii_lowercase b ≡ l → (is_ascii_uppercase b || b == 95) ≡ u → tokens_after at (piece_of b rest) after ≡ then_token (record { kind = cond l Lower (cond u Upper Digits); start = at; end = at + 1 + prefix_len is_word rest }) (after (prefix_len is_word rest))
unfolding piece_of
word_gives b rest at after true u word lower upper =
    rw (differs is_word b 32 word refl, differs is_word b 9 word refl, differs is_word b 10 word refl, differs is_word b 13 word refl, differs is_word b 37 word refl, lower) refl
word_gives b rest at after false true word lower upper =
    rw (differs is_word b 32 word refl, differs is_word b 9 word refl, differs is_word b 10 word refl, differs is_word b 13 word refl, differs is_word b 37 word refl, lower, upper) refl
word_gives b rest at after false false word lower upper =
    let digit : is_ascii_digit b ≡ true = digit_else (is_ascii_digit b) (is_ascii_uppercase b) (is_ascii_lowercase b) (b == 95) word lower upper in
    rw (differs is_word b 32 word refl, differs is_word b 9 word refl, differs is_word b 10 word refl, differs is_word b 13 word refl, differs is_word b 37 word refl, lower, upper, digit) refl

unquoted : (l u : Bool) → 0 ≡ quote_len (cond l Lower (cond u Upper Digits))
unquoted true u = refl
unquoted false true = refl
unquoted false false = refl

whole_content : (kind : Kind) (text : List ℕ) → 0 ≡ quote_len kind → HasContent kind text text
whole_content kind text none = record { opening = []; closing = []; split = sym (append-nil text); left = none; right = none }

pub lex_word : (name rest : List ℕ) (words : List Word) (flag : Bool) → name ≢ [] → list_all is_word name ≡ true → FailsFirst is_word rest → begins_with words ≡ flag → Lexes rest words → Lexes (name ++ rest) (plain name flag ∷ words)
lex_word [] rest words flag some all next is lexed = absurd (some refl)
lex_word (b ∷ more) rest words flag some all next is lexed =
    let word : is_word b ≡ true = and_left (is_word b) (list_all is_word more) all in
    let run : prefix_len is_word (more ++ rest) ≡ length more = prefix_runs is_word more rest (and_right (is_word b) (list_all is_word more) all) next in
    let taken : IsTaken b (more ++ rest) (kind_at b) (prefix_len is_word (more ++ rest)) = record { gives = λ at after. word_gives b (more ++ rest) at after (is_ascii_lowercase b) (is_ascii_uppercase b || b == 95) word refl refl } in
    lex_token (kind_at b) b more (b ∷ more) rest words flag (subst (λ n. IsTaken b (more ++ rest) (kind_at b) n) run taken) (whole_content (kind_at b) (b ∷ more) (unquoted (is_ascii_lowercase b) (is_ascii_uppercase b || b == 95))) is lexed

-- ---- names in quotes

quotable : (b : ℕ) → 32 ≤ b → b ≤ 126 → b ≢ 39 → is_quotable b ≡ true
quotable b low high other = grind (arith, nat_tests)

all_quotable : (name : List ℕ) → All (λ b. (32 ≤ b) × (b ≤ 126) × (b ≢ 39)) name → list_all is_quotable name ≡ true
all_quotable [] h = refl
all_quotable (b ∷ name) h =
    let (low, high, other) = All-head (λ b. (32 ≤ b) × (b ≤ 126) × (b ≢ 39)) b name h in
    rw (quotable b low high other) (all_quotable name (All-tail (λ b. (32 ≤ b) × (b ≤ 126) × (b ≢ 39)) b name h))

-- a name that was written in quotes
abbrev pub in_quotes : List ℕ → Word
in_quotes name = record { kind = Quoted; text = name; before_caret = false }

quoted_taken : (b : ℕ) (name rest : List ℕ) → list_all is_quotable (b ∷ name) ≡ true → IsTaken 39 ((b ∷ name) ++ 39 ∷ rest) Quoted (length (b ∷ name) + 1)
unfolding piece_of
quoted_taken b name rest all =
    let run : prefix_len is_quotable ((b ∷ name) ++ 39 ∷ rest) ≡ length (b ∷ name) = prefix_runs is_quotable (b ∷ name) (39 ∷ rest) all refl in
    let left : drop (length (b ∷ name)) ((b ∷ name) ++ 39 ∷ rest) ≡ 39 ∷ rest = drop_at (b ∷ name) (39 ∷ rest) (length (b ∷ name)) refl in
    let some : nat_lt 0 (length (b ∷ name)) ≡ true = lt-ltb 0 (length (b ∷ name)) (omega arith) in
    record { gives = λ at after. rw (run, left, some) refl }

pub lex_quoted : (name rest : List ℕ) (words : List Word) (flag : Bool) → IsPlainName name → begins_with words ≡ flag → Lexes rest words → Lexes (quoted name ++ rest) (record { kind = Quoted; text = name; before_caret = flag } ∷ words)
lex_quoted [] rest words flag named is lexed = absurd (named.nonempty refl)
lex_quoted (b ∷ name) rest words flag named is lexed =
    let taken : IsTaken 39 ((b ∷ name) ++ 39 ∷ rest) Quoted (length (b ∷ name) + 1) = quoted_taken b name rest (all_quotable (b ∷ name) named.printable) in
    let same : ((b ∷ name) ++ 39 ∷ []) ++ rest ≡ (b ∷ name) ++ 39 ∷ rest = append_assoc (b ∷ name) (39 ∷ []) rest in
    let size : length (b ∷ name) + 1 ≡ length ((b ∷ name) ++ 39 ∷ []) = simp length-append in
    lex_token Quoted 39 ((b ∷ name) ++ 39 ∷ []) (b ∷ name) rest words flag (subst (λ t. IsTaken 39 t Quoted (length ((b ∷ name) ++ 39 ∷ []))) (sym same) (subst (λ n. IsTaken 39 ((b ∷ name) ++ 39 ∷ rest) Quoted n) size taken)) (record { opening = 39 ∷ []; closing = 39 ∷ []; split = refl; left = refl; right = refl }) is lexed

-- ---- single bytes

abbrev pub sign : ℕ → Word
sign b = record { kind = Punct; text = b ∷ []; before_caret = false }

abbrev pub caret : Word
caret = record { kind = Symbol; text = 94 ∷ []; before_caret = false }

pub lex_sign : (b : ℕ) (rest : List ℕ) (words : List Word) (flag : Bool) → IsTaken b rest Punct 0 → begins_with words ≡ flag → Lexes rest words → Lexes (b ∷ rest) (record { kind = Punct; text = b ∷ []; before_caret = flag } ∷ words)
lex_sign b rest words flag taken is lexed = lex_token Punct b [] (b ∷ []) rest words flag taken (whole_content Punct (b ∷ []) refl) is lexed

caret_taken : (rest : List ℕ) → IsTaken 94 rest Symbol (prefix_len is_symbol rest)
unfolding piece_of
caret_taken rest = record { gives = λ at after. refl }

pub lex_caret : (rest : List ℕ) (words : List Word) → FailsFirst is_symbol rest → begins_with words ≡ false → Lexes rest words → Lexes (94 ∷ rest) (caret ∷ words)
lex_caret rest words next is lexed =
    let run : prefix_len is_symbol rest ≡ 0 = prefix_runs is_symbol [] rest refl next in
    lex_token Symbol 94 [] (94 ∷ []) rest words false (subst (λ n. IsTaken 94 rest Symbol n) run (caret_taken rest)) (whole_content Symbol (94 ∷ []) refl) is lexed

pub comma_taken : (rest : List ℕ) → IsTaken 44 rest Punct 0
unfolding piece_of
comma_taken rest = record { gives = λ at after. refl }

pub dot_taken : (rest : List ℕ) → IsTaken 46 rest Punct 0
unfolding piece_of
dot_taken rest = record { gives = λ at after. refl }

pub slash_taken : (rest : List ℕ) → FailsFirst is_symbol rest → IsTaken 47 rest Punct 0
unfolding piece_of
slash_taken [] next = record { gives = λ at after. refl }
slash_taken (c ∷ rest) next = record { gives = λ at after. rw (differs_back is_symbol c 42 next refl) refl }

pub colon_taken : (rest : List ℕ) → IsTaken 58 rest Punct 0
unfolding piece_of
colon_taken rest = record { gives = λ at after. refl }

pub semicolon_taken : (rest : List ℕ) → IsTaken 59 rest Punct 0
unfolding piece_of
semicolon_taken rest = record { gives = λ at after. refl }

pub open_round_taken : (rest : List ℕ) → IsTaken 40 rest Punct 0
unfolding piece_of
open_round_taken rest = record { gives = λ at after. refl }

pub close_round_taken : (rest : List ℕ) → IsTaken 41 rest Punct 0
unfolding piece_of
close_round_taken rest = record { gives = λ at after. refl }

pub open_square_taken : (rest : List ℕ) → IsTaken 91 rest Punct 0
unfolding piece_of
open_square_taken rest = record { gives = λ at after. refl }

pub close_square_taken : (rest : List ℕ) → IsTaken 93 rest Punct 0
unfolding piece_of
close_square_taken rest = record { gives = λ at after. refl }

pub open_brace_taken : (rest : List ℕ) → IsTaken 123 rest Punct 0
unfolding piece_of
open_brace_taken rest = record { gives = λ at after. refl }

pub close_brace_taken : (rest : List ℕ) → IsTaken 125 rest Punct 0
unfolding piece_of
close_brace_taken rest = record { gives = λ at after. refl }

space_taken : (rest : List ℕ) → IsBlankByte 32 rest
unfolding piece_of
space_taken rest = record { gives = λ at after. refl }

line_feed_taken : (rest : List ℕ) → IsBlankByte 10 rest
unfolding piece_of
line_feed_taken rest = record { gives = λ at after. refl }

pub lex_space : (rest : List ℕ) (words : List Word) → Lexes rest words → Lexes (32 ∷ rest) words
lex_space rest words lexed = lex_blank 32 rest words (space_taken rest) lexed

pub lex_line_feed : (rest : List ℕ) (words : List Word) → Lexes rest words → Lexes (10 ∷ rest) words
lex_line_feed rest words lexed = lex_blank 10 rest words (line_feed_taken rest) lexed
