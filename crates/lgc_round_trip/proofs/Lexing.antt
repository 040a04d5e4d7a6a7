-- How a text that begins with a token or a blank is cut: it has that token, and then the tokens of what is behind it.
use Rattle.std.proofs.Common.{◌≡◌, ℕ, zero, suc, ◌+◌, ◌-◌, Bool, false, List, [], ◌∷◌, ◌++◌, length, take, drop, Result, Ok, refl, sym, ap, ◌∙◌, append_assoc, add-zero, arith, length-append}
use Rattle.std.specs.Prelude.{map, ◌&&◌, slice_range, codes}
use Rattle.std.specs.Str.{bytes_eq}
use Rattle.std.proofs.lemmas.List.{take_at, drop_at}
use Rattle.lgc_lexer.specs.declared.token.Kind.{Kind}
use Rattle.lgc_lexer.specs.declared.token.Token.{Token}
use Rattle.lgc_lexer.specs.declared.fault.LexFault.{LexFault}
use Rattle.lgc_lexer.specs.Tokens.{piece_of, tokens_from, tokens_after, then_token}
use Rattle.lgc_lexer.specs.Spans.{quote_len}
use Rattle.lgc_tokens.specs.Spelled.{Spelled, spelled_all, is_symbol, begins_with_caret}

-- what the grammar of rules sees of a token
pub record Word : Type 0 where
  pub kind : Kind
  pub text : List ℕ
  pub before_caret : Bool

abbrev pub word_of : Spelled → Word
word_of t = record { kind = t.token.kind; text = t.text; before_caret = t.before_caret }

abbrev pub words_in : List ℕ → List Token → List Word
words_in bytes ts = map word_of (spelled_all bytes ts)

-- whether a Symbol ^ comes first
abbrev pub begins_with : List Word → Bool
begins_with [] = false
begins_with (w ∷ _) = is_symbol w.kind && bytes_eq w.text (codes "^")

-- the text that stands behind `front` has tokens of these words
pub record Told (front text : List ℕ) (words : List Word) : Type 0 where
  pub tokens : List Token
  pub cut : tokens_from (length front) 0 text ≡ Ok tokens
  pub seen : words_in (front ++ text) tokens ≡ words

-- the same wherever the text stands
pub record Lexes (text : List ℕ) (words : List Word) : Type 0 where
  pub behind : (front : List ℕ) → Told front text words

-- the content of a token with this text
pub record HasContent (kind : Kind) (text inside : List ℕ) : Type 0 where
  pub opening : List ℕ
  pub closing : List ℕ
  pub split : text ≡ opening ++ (inside ++ closing)
  pub left : length opening ≡ quote_len kind
  pub right : length closing ≡ quote_len kind

-- the piece that begins with b is a token of this kind, which has n more bytes
pub record IsTaken (b : ℕ) (rest : List ℕ) (kind : Kind) (n : ℕ) : Type 0 where
  pub gives : (at : ℕ) (after : ℕ → Result (List Token) LexFault) → tokens_after at (piece_of b rest) after ≡ then_token (record { kind = kind; start = at; end = at + 1 + n }) (after n)

-- the piece that begins with b is blank, and only this byte
pub record IsBlankByte (b : ℕ) (rest : List ℕ) : Type 0 where
  pub gives : (at : ℕ) (after : ℕ → Result (List Token) LexFault) → tokens_after at (piece_of b rest) after ≡ after 0

covered : (at n : ℕ) (bs : List ℕ) → tokens_from at n bs ≡ tokens_from (at + n) 0 (drop n bs)
unfolding tokens_from
covered at zero [] = refl
covered at (suc n) [] = refl
covered at zero (b ∷ bs) = rw add-zero refl
covered at (suc n) (b ∷ bs) = let e : at + 1 + n ≡ at + suc n = omega arith in covered (at + 1) n bs ∙ ap (λ (i : ℕ). tokens_from i 0 (drop n bs)) e

begins_same : (bytes : List ℕ) (ts : List Token) → begins_with_caret bytes ts ≡ begins_with (words_in bytes ts)
begins_same bytes [] = refl
begins_same bytes (t ∷ ts) = refl

same_words : (kind : Kind) (t u : List ℕ) (f g : Bool) (v w : List Word) → t ≡ u → f ≡ g → v ≡ w → record { kind = kind; text = t; before_caret = f } ∷ v ≡ record { kind = kind; text = u; before_caret = g } ∷ w
same_words kind t u f g v w d e h = cc

slice_inside : (front opening inside closing rest : List ℕ) (i j : ℕ) → length front + length opening ≡ i → j ≡ i + length inside → slice_range (front ++ ((opening ++ (inside ++ closing)) ++ rest)) i j ≡ inside
slice_inside front opening inside closing rest i j from to =
    let size : length (front ++ opening) ≡ i = length-append front opening ∙ from in
    let long : length inside ≡ j - i = omega arith in
    let parts : front ++ ((opening ++ (inside ++ closing)) ++ rest) ≡ (front ++ opening) ++ (inside ++ (closing ++ rest)) = simp append_assoc in
    ap (λ xs. slice_range xs i j) parts ∙ ap (take (j - i)) (drop_at (front ++ opening) (inside ++ (closing ++ rest)) i size) ∙ take_at inside (closing ++ rest) (j - i) long

content_here : (front text inside rest : List ℕ) (kind : Kind) (start end : ℕ) → HasContent kind text inside → start ≡ length front → end ≡ length front + length text → slice_range (front ++ (text ++ rest)) (start + quote_len kind) (end - quote_len kind) ≡ inside
content_here front text inside rest kind start end h from to =
    let left : length h.opening ≡ quote_len kind = h.left in
    let right : length h.closing ≡ quote_len kind = h.right in
    let size : length text ≡ length h.opening + (length inside + length h.closing) = ap length h.split ∙ length-append h.opening (inside ++ h.closing) ∙ ap (λ n. length h.opening + n) (length-append inside h.closing) in
    ap (λ t. slice_range (front ++ (t ++ rest)) (start + quote_len kind) (end - quote_len kind)) h.split
    ∙ slice_inside front h.opening inside h.closing rest (start + quote_len kind) (end - quote_len kind) (omega arith) (omega arith)

-- a token at the front
pub lex_token : (kind : Kind) (b : ℕ) (more inside rest : List ℕ) (words : List Word) (flag : Bool) → IsTaken b (more ++ rest) kind (length more) → HasContent kind (b ∷ more) inside → begins_with words ≡ flag → Lexes rest words → Lexes (b ∷ (more ++ rest)) (record { kind = kind; text = inside; before_caret = flag } ∷ words)
unfolding tokens_from
lex_token kind b more inside rest words flag piece content next lexed = record { behind = here }
  where
    here : (front : List ℕ) → Told front (b ∷ (more ++ rest)) (record { kind = kind; text = inside; before_caret = flag } ∷ words)
    here front =
        let told = lexed.behind (front ++ b ∷ more) in
        let size : length (front ++ b ∷ more) ≡ length front + 1 + length more = omega (arith, length-append front (b ∷ more)) in
        let same : (front ++ b ∷ more) ++ rest ≡ front ++ (b ∷ (more ++ rest)) = append_assoc front (b ∷ more) rest in
        let seen : words_in (front ++ (b ∷ (more ++ rest))) told.tokens ≡ words = ap (λ bs. words_in bs told.tokens) (sym same) ∙ told.seen in
        let cut : tokens_from (length front + 1) (length more) (more ++ rest) ≡ Ok told.tokens =
        covered (length front + 1) (length more) (more ++ rest)
        ∙ ap (tokens_from (length front + 1 + length more) 0) (drop_at more rest (length more) refl)
        ∙ ap (λ (i : ℕ). tokens_from i 0 rest) (sym size) ∙ told.cut in
        record {
          tokens = record { kind = kind; start = length front; end = length front + 1 + length more } ∷ told.tokens;
          cut =
              piece.gives (length front) (λ n. tokens_from (length front + 1) n (more ++ rest))
              ∙ ap (then_token (record { kind = kind; start = length front; end = length front + 1 + length more })) cut;
          seen =
              same_words kind _ inside _ flag _ words
              (content_here front (b ∷ more) inside rest kind (length front) (length front + 1 + length more) content refl (omega arith))
              (begins_same (front ++ (b ∷ (more ++ rest))) told.tokens ∙ ap begins_with seen ∙ next)
              seen;
        }

-- a blank byte at the front
pub lex_blank : (b : ℕ) (rest : List ℕ) (words : List Word) → IsBlankByte b rest → Lexes rest words → Lexes (b ∷ rest) words
unfolding tokens_from
lex_blank b rest words piece lexed = record { behind = here }
  where
    here : (front : List ℕ) → Told front (b ∷ rest) words
    here front =
        let told = lexed.behind (front ++ b ∷ []) in
        let size : length (front ++ b ∷ []) ≡ length front + 1 = length-append front (b ∷ []) in
        let same : (front ++ b ∷ []) ++ rest ≡ front ++ (b ∷ rest) = append_assoc front (b ∷ []) rest in
        record {
          tokens = told.tokens;
          cut =
              piece.gives (length front) (λ n. tokens_from (length front + 1) n rest)
              ∙ ap (λ (i : ℕ). tokens_from i 0 rest) (sym size) ∙ told.cut;
          seen = ap (λ bs. words_in bs told.tokens) (sym same) ∙ told.seen;
        }

-- the end
pub lex_end : Lexes [] []
unfolding tokens_from
lex_end = record { behind = λ front. record { tokens = []; cut = refl; seen = refl } }

-- what that says of the whole text
pub lexes_whole : (text : List ℕ) (words : List Word) → Lexes text words → (tokens : List Token) × (tokens_from 0 0 text ≡ Ok tokens) × (words_in text tokens ≡ words)
lexes_whole text words lexed = let told = lexed.behind [] in (told.tokens, told.cut, told.seen)
