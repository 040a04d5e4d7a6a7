-- Where tokens stand, and what they say.
use Rattle.std.specs.Prelude.{ℕ, ◌+◌, ◌-◌, ◌*◌, ◌≤◌, List, [], ◌∷◌, length, slice_range}
use Rattle.std.specs.List.{AllByRecursion}
use Rattle.lgc_lexer.specs.declared.token.Kind.{Kind}
use Rattle.lgc_lexer.specs.declared.token.Kind.TheVariants.{Quoted, Text}
use Rattle.lgc_lexer.specs.declared.token.Token.{Token}

-- a Quoted and a Text have a quote at each end
abbrev pub quote_len : Kind → ℕ
quote_len Quoted = 1
quote_len Text = 1
quote_len _ = 0

-- the bytes of a token
abbrev pub text_of : List ℕ → Token → List ℕ
text_of bytes t = slice_range bytes t.start t.end

-- what stands between its quotes, or all of it
abbrev pub content_of : List ℕ → Token → List ℕ
content_of bytes t = slice_range bytes (t.start + quote_len t.kind) (t.end - quote_len t.kind)

-- the token lies in the bytes, of which there are len, and has its quotes
abbrev pub LiesIn : ℕ → Token → Type 0
LiesIn len t = (t.start + 2 * quote_len t.kind ≤ t.end) × (t.end ≤ len)

-- the tokens lie in the bytes
abbrev pub AllIn : List ℕ → List Token → Type 0
AllIn bytes ts = AllByRecursion (LiesIn (length bytes)) ts

-- the tokens lie between two places, each behind the one before it
abbrev pub AreSpans : ℕ → ℕ → List Token → Type 0
AreSpans from len [] = Unit {0}
AreSpans from len (t ∷ ts) = (from ≤ t.start) × LiesIn len t × AreSpans t.end len ts
