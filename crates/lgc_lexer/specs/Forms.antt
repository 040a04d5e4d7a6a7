-- The forms of tokens, blanks and comments.
use Rattle.std.specs.Prelude.{◌≡◌, ◌≢◌, ℕ, Bool, true, not, ◌&&◌, ◌||◌, ◌==◌, nat_le, List, [], ◌∷◌, ◌++◌, All, ◌⊎◌, codes}
use Rattle.std.specs.List.{list_any, AllPass, concat}
use Rattle.std.specs.Char.{is_ascii_alphanumeric, is_ascii_digit, is_ascii_lowercase, is_ascii_uppercase}
use Rattle.lgc_lexer.specs.declared.scan.TheConstants.{QUOTE, DOUBLE_QUOTE, UNDERSCORE, LINE_FEED}
use Rattle.lgc_lexer.specs.declared.token.Kind.{Kind}
use Rattle.lgc_lexer.specs.declared.token.Kind.TheVariants.{Lower, Upper, Digits, Quoted, Text, Symbol, Punct}

-- ---- bytes

-- whether b is one of these bytes
abbrev pub is_one_of : List ℕ → ℕ → Bool
is_one_of bytes b = list_any (λ c. b == c) bytes

-- space, tab, line feed, carriage return
abbrev pub is_blank : ℕ → Bool
is_blank b = b == 32 || b == 9 || b == LINE_FEED || b == 13

-- letters, digits and _
abbrev pub is_word : ℕ → Bool
is_word b = is_ascii_alphanumeric b || b == UNDERSCORE

abbrev pub is_symbol : ℕ → Bool
is_symbol b = is_one_of (codes "*+-#&@~^?!$<=>|\\") b

abbrev pub is_punct : ℕ → Bool
is_punct b = is_one_of (codes "(){}[],.:;/") b

-- from 32 to 126, other than the quote
abbrev pub is_quotable : ℕ → Bool
is_quotable b = nat_le 32 b && nat_le b 126 && not (b == QUOTE)

-- ---- tokens

-- one byte that passes a test
abbrev pub IsOne : (ℕ → Bool) → List ℕ → Type 0
IsOne test (b ∷ []) = test b ≡ true
IsOne test _ = ⊥

-- one byte that passes the first test, and then bytes that pass the other
abbrev pub IsRun : (ℕ → Bool) → (ℕ → Bool) → List ℕ → Type 0
IsRun first more [] = ⊥
IsRun first more (b ∷ rest) = (first b ≡ true) × AllPass more rest

-- one or more quotable bytes between two quotes
abbrev pub IsQuoted : List ℕ → Type 0
IsQuoted text = (inside : List ℕ) × (text ≡ QUOTE ∷ inside ++ QUOTE ∷ []) × (inside ≢ []) × AllPass is_quotable inside

-- bytes other than the double quote between two of them
abbrev pub IsText : List ℕ → Type 0
IsText text = (inside : List ℕ) × (text ≡ DOUBLE_QUOTE ∷ inside ++ DOUBLE_QUOTE ∷ []) × All (λ b. b ≢ DOUBLE_QUOTE) inside

-- the text has the form of tokens of this kind
abbrev pub HasForm : Kind → List ℕ → Type 0
HasForm Lower text = IsRun is_ascii_lowercase is_word text
HasForm Upper text = IsRun (λ b. is_ascii_uppercase b || b == UNDERSCORE) is_word text
HasForm Digits text = IsRun is_ascii_digit is_word text
HasForm Quoted text = IsQuoted text
HasForm Text text = IsText text
HasForm Symbol text = IsRun is_symbol is_symbol text
HasForm Punct text = IsOne is_punct text

-- ---- what stands between tokens

-- % and the bytes up to and with the next line feed
abbrev pub IsLineComment : List ℕ → Type 0
IsLineComment text = (inside : List ℕ) × (text ≡ codes "%" ++ inside ++ LINE_FEED ∷ []) × All (λ b. b ≢ LINE_FEED) inside

-- there is no */ in it
abbrev pub HasNoClose : List ℕ → Type 0
HasNoClose inside = (front back : List ℕ) → inside ≢ front ++ codes "*/" ++ back

-- /* and the bytes up to and with the next */
abbrev pub IsBlockComment : List ℕ → Type 0
IsBlockComment text = (inside : List ℕ) × (text ≡ codes "/*" ++ inside ++ codes "*/") × HasNoClose inside

-- a blank byte or a comment
abbrev pub IsBlank : List ℕ → Type 0
IsBlank text = IsOne is_blank text ⊎ (IsLineComment text ⊎ IsBlockComment text)

-- blank bytes and comments only
abbrev pub IsGap : List ℕ → Type 0
IsGap text = (parts : List (List ℕ)) × (text ≡ concat parts) × All IsBlank parts
