-- What it means that bytes have these tokens, or this fault.
use Rattle.std.specs.Prelude.{◌≡◌, ◌≢◌, ℕ, ◌+◌, ◌≤◌, false, List, [], ◌∷◌, ◌++◌, length, drop, All, ◌⊎◌, slice_range, codes}
use Rattle.std.specs.List.{AllPass}
use Rattle.lgc_lexer.specs.declared.scan.TheConstants.{QUOTE, DOUBLE_QUOTE, LINE_FEED}
use Rattle.lgc_lexer.specs.declared.token.Kind.{Kind}
use Rattle.lgc_lexer.specs.declared.token.Token.{Token}
use Rattle.lgc_lexer.specs.declared.fault.LexFault.{LexFault}
use Rattle.lgc_lexer.specs.declared.fault.LexFault.TheVariants.{BadByte, OpenQuote, Memory}
use Rattle.lgc_lexer.specs.Forms.{is_quotable, HasForm, HasNoClose, IsBlank, IsGap}
use Rattle.lgc_lexer.specs.Spans.{text_of, LiesIn}

-- no longer text at its place has the form, where the bytes `after` stand behind it
abbrev pub IsLongest : Kind → List ℕ → List ℕ → Type 0
IsLongest kind text after = (more rest : List ℕ) → after ≡ more ++ rest → HasForm kind (text ++ more) → more ≡ []

-- The next token after the place `from` is t: between them is a gap, and t is the longest text of its form there.
pub record IsNext (bytes : List ℕ) (from : ℕ) (t : Token) : Type 0 where
  pub behind : from ≤ t.start
  pub inside : LiesIn (length bytes) t
  pub gap : IsGap (slice_range bytes from t.start)
  pub form : HasForm t.kind (text_of bytes t)
  pub longest : IsLongest t.kind (text_of bytes t) (drop t.end bytes)
  pub no_comment : (rest : List ℕ) → drop t.start bytes ≢ codes "/*" ++ rest

-- From the place `from` on there are these tokens, and behind the last one the bytes end so.
abbrev pub AreNext : List ℕ → (ℕ → Type 0) → ℕ → List Token → Type 0
AreNext bytes ends from [] = ends from
AreNext bytes ends from (t ∷ ts) = IsNext bytes from t × AreNext bytes ends t.end ts

-- Behind the place `from` there is only a gap. The end of the bytes closes a comment of one line as a line feed does.
abbrev pub HasOnlyGap : List ℕ → ℕ → Type 0
HasOnlyGap bytes from = IsGap (drop from bytes ++ LINE_FEED ∷ [])

-- no token, blank or comment begins with the first of these bytes
abbrev pub BeginsNothing : List ℕ → Type 0
BeginsNothing [] = ⊥
BeginsNothing (b ∷ _) =
    ((kind : Kind) (more : List ℕ) → HasForm kind (b ∷ more) → ⊥)
    × ((more : List ℕ) → IsBlank (b ∷ more) → ⊥)

-- After its first n bytes a Quoted that begins here has a byte that can't stand there: one that isn't quotable and doesn't
-- close it, or the second quote of an empty name.
abbrev pub HasBadQuoted : ℕ → List ℕ → Type 0
HasBadQuoted n bytes =
    (inside : List ℕ) × (bad : ℕ) × (more : List ℕ)
    × (bytes ≡ QUOTE ∷ inside ++ bad ∷ more) × (n ≡ 1 + length inside)
    × AllPass is_quotable inside × (is_quotable bad ≡ false) × (bad ≡ QUOTE → inside ≡ [])

-- A Quoted begins here, and neither its second quote nor a bad byte comes.
abbrev pub IsUnclosedQuoted : List ℕ → Type 0
IsUnclosedQuoted bytes = (inside : List ℕ) × (bytes ≡ QUOTE ∷ inside) × AllPass is_quotable inside

-- A Text begins here, and its second quote doesn't come.
abbrev pub IsUnclosedText : List ℕ → Type 0
IsUnclosedText bytes = (inside : List ℕ) × (bytes ≡ DOUBLE_QUOTE ∷ inside) × All (λ b. b ≢ DOUBLE_QUOTE) inside

-- A comment begins here with /* and no */ comes.
abbrev pub IsUnclosedComment : List ℕ → Type 0
IsUnclosedComment bytes = (inside : List ℕ) × (bytes ≡ codes "/*" ++ inside) × HasNoClose inside

-- A Quoted, a Text or a comment begins here and isn't closed.
abbrev pub IsUnclosed : List ℕ → Type 0
IsUnclosed bytes = IsUnclosedQuoted bytes ⊎ (IsUnclosedText bytes ⊎ IsUnclosedComment bytes)

-- These bytes, of which the first stands at the offset `at`, begin with this fault.
abbrev pub IsFaultAt : LexFault → ℕ → List ℕ → Type 0
IsFaultAt (BadByte bad) at bytes =
    ((bad ≡ at) × BeginsNothing bytes)
    ⊎ ((n : ℕ) × (bad ≡ at + n) × HasBadQuoted n bytes)
IsFaultAt (OpenQuote quote) at bytes = (quote ≡ at) × IsUnclosed bytes
IsFaultAt Memory at bytes = ⊥

-- Behind the place `from` there is a gap, and then this fault.
abbrev pub HasFault : List ℕ → LexFault → ℕ → Type 0
HasFault bytes fault from = (at : ℕ) × (from ≤ at) × IsGap (slice_range bytes from at) × IsFaultAt fault at (drop at bytes)

-- the bytes have these tokens
abbrev pub AreTokensOf : List ℕ → List Token → Type 0
AreTokensOf bytes ts = AreNext bytes (HasOnlyGap bytes) 0 ts

-- the bytes begin with tokens, and behind them is this fault
abbrev pub IsFaultOf : List ℕ → LexFault → Type 0
IsFaultOf bytes fault = (ts : List Token) × AreNext bytes (HasFault bytes fault) 0 ts
