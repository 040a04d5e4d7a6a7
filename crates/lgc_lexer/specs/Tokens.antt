-- The tokens of bytes, or their first fault.
use Rattle.std.specs.Prelude.{◌≡◌, ℕ, zero, suc, ◌+◌, ◌≤◌, ◌&&◌, ◌||◌, ◌==◌, nat_lt, List, [], ◌∷◌, length, drop, Option, Some, None, option_map, Result, Ok, Err, if◌then◌else◌}
use Rattle.std.specs.List.{prefix_len, position_or_len}
use Rattle.std.specs.Char.{is_ascii_digit, is_ascii_lowercase, is_ascii_uppercase}
use Rattle.lgc_lexer.specs.declared.scan.TheConstants.{QUOTE, DOUBLE_QUOTE, UNDERSCORE, LINE_FEED, PERCENT, SLASH, STAR}
use Rattle.lgc_lexer.specs.declared.token.Kind.TheVariants.{Lower, Upper, Digits, Quoted, Text, Symbol, Punct}
use Rattle.lgc_lexer.specs.declared.token.Token.{Token}
use Rattle.lgc_lexer.specs.declared.fault.LexFault.{LexFault}
use Rattle.lgc_lexer.specs.declared.fault.LexFault.TheVariants.{BadByte, OpenQuote, Memory}
use Rattle.lgc_lexer.specs.declared.piece.Piece.{Piece}
use Rattle.lgc_lexer.specs.declared.piece.Piece.TheVariants.{Blank, Taken, Bad, Unclosed}
use Rattle.lgc_lexer.specs.Forms.{is_blank, is_word, is_symbol, is_punct, is_quotable}

-- how many bytes there are up to the end of the first */, if there is one
abbrev pub close_len : List ℕ → Option ℕ
close_len [] = None
close_len (b ∷ []) = None
close_len (b ∷ c ∷ rest) = if b == STAR && c == SLASH then Some 2 else option_map suc (close_len (c ∷ rest))

-- After % a comment goes on up to and with the next line feed, or to the end.
abbrev pub line_comment : List ℕ → Piece
line_comment rest = let n = position_or_len (λ c. c == LINE_FEED) rest in if nat_lt n (length rest) then Blank (n + 1) else Blank n

-- After /* a comment goes on to the end of the next */.
abbrev pub block_comment : Option ℕ → Piece
block_comment None = Unclosed
block_comment (Some n) = Blank (1 + n)

-- A slash before a star begins a comment, and another slash is a token.
abbrev pub slash : List ℕ → Piece
slash [] = Taken Punct 0
slash (c ∷ rest) = if c == STAR then block_comment (close_len rest) else Taken Punct 0

-- After its first quote a Text goes on to the next one.
abbrev pub text_in : List ℕ → Piece
text_in rest = let n = position_or_len (λ c. c == DOUBLE_QUOTE) rest in if nat_lt n (length rest) then Taken Text (n + 1) else Unclosed

-- Behind its n quotable bytes a Quoted ends with its second quote, where there are some, and another byte there is bad.
abbrev pub quoted_end : ℕ → List ℕ → Piece
quoted_end n [] = Unclosed
quoted_end n (c ∷ _) = if c == QUOTE && nat_lt 0 n then Taken Quoted (n + 1) else Bad (n + 1)

-- After its first quote a Quoted takes the quotable bytes.
abbrev pub quoted_in : List ℕ → Piece
quoted_in rest = let n = prefix_len is_quotable rest in quoted_end n (drop n rest)

-- The first byte tells the form, and the piece takes as many of the bytes `rest` after it as the form allows.
unfoldable pub piece_of : ℕ → List ℕ → Piece
piece_of b rest =
    if is_blank b then Blank 0
    else (if b == PERCENT then line_comment rest
    else (if is_ascii_lowercase b then Taken Lower (prefix_len is_word rest)
    else (if is_ascii_uppercase b || b == UNDERSCORE then Taken Upper (prefix_len is_word rest)
    else (if is_ascii_digit b then Taken Digits (prefix_len is_word rest)
    else (if b == QUOTE then quoted_in rest
    else (if b == DOUBLE_QUOTE then text_in rest
    else (if b == SLASH then slash rest
    else (if is_symbol b then Taken Symbol (prefix_len is_symbol rest)
    else (if is_punct b then Taken Punct 0
    else Bad 0)))))))))

-- the piece lies within the bytes, of which len stand after its first
abbrev pub IsWithin : Piece → ℕ → Type 0
IsWithin (Blank n) len = n ≤ len
IsWithin (Taken k n) len = n ≤ len
IsWithin (Bad n) len = n ≤ len
IsWithin Unclosed len = Unit {0}

-- a token before the others, unless there is a fault
abbrev pub then_token : Token → Result (List Token) LexFault → Result (List Token) LexFault
then_token t (Ok ts) = Ok (t ∷ ts)
then_token t (Err e) = Err e

-- what a piece at the offset `at` gives, where `after` tells what its further bytes leave
abbrev pub tokens_after : ℕ → Piece → (ℕ → Result (List Token) LexFault) → Result (List Token) LexFault
tokens_after at (Blank n) after = after n
tokens_after at (Taken k n) after = then_token (record { kind = k; start = at; end = at + 1 + n }) (after n)
tokens_after at (Bad n) after = Err (BadByte (at + n))
tokens_after at Unclosed after = Err (OpenQuote at)

-- The tokens of the bytes that stand from the offset `at` on. The piece before them still takes the first `covered` of
-- these bytes, and a piece begins at each byte that no earlier piece takes.
unfoldable pub tokens_from : ℕ → ℕ → List ℕ → Result (List Token) LexFault
tokens_from at covered [] = Ok []
tokens_from at (suc n) (b ∷ rest) = tokens_from (at + 1) n rest
tokens_from at zero (b ∷ rest) = tokens_after at (piece_of b rest) (λ n. tokens_from (at + 1) n rest)

-- the tokens of the bytes, or their first fault
abbrev pub tokens_of : List ℕ → Result (List Token) LexFault
tokens_of bytes = tokens_from 0 0 bytes

-- a fault other than want of memory is the one that the definition gives
abbrev pub FailsAs : {Y : Type 0} → LexFault → Result Y LexFault → Type 0
FailsAs Memory told = Unit {0}
FailsAs (BadByte at) told = told ≡ Err (BadByte at)
FailsAs (OpenQuote at) told = told ≡ Err (OpenQuote at)

-- a function returned what the definition gives, or memory ran out
abbrev pub Gives : {X Y : Type 0} → (X → Y) → Result X LexFault → Result Y LexFault → Type 0
Gives view (Ok x) told = told ≡ Ok (view x)
Gives view (Err e) told = FailsAs e told
