-- The tokens lie in the bytes, one behind the other.
use Rattle.std.proofs.Common.{◌≡◌, ℕ, List, [], ◌∷◌, length, Ok}
use Rattle.lgc_lexer.specs.declared.token.Token.{Token}
use Rattle.lgc_lexer.specs.Tokens.{tokens_of}
use Rattle.lgc_lexer.specs.Spans.{AreSpans, AllIn}
use Rattle.lgc_lexer.specs.Cuts.{AreNext}
use Rattle.lgc_lexer.proofs.CutLaws.{are_tokens_of}

spans : (bytes : List ℕ) (ends : ℕ → Type 0) (from : ℕ) (ts : List Token) → AreNext bytes ends from ts → AreSpans from (length bytes) ts
spans bytes ends from [] h = tt
spans bytes ends from (t ∷ ts) h = (h.0.behind, h.0.inside, spans bytes ends t.end ts h.1)

all_in : (bytes : List ℕ) (from : ℕ) (ts : List Token) → AreSpans from (length bytes) ts → AllIn bytes ts
all_in bytes from [] h = tt
all_in bytes from (t ∷ ts) h = (h.1, all_in bytes t.end ts h.2)

pub tokens_are_spans : (bytes : List ℕ) (ts : List Token) → tokens_of bytes ≡ Ok ts → AreSpans 0 (length bytes) ts
tokens_are_spans bytes ts e = spans bytes _ 0 ts (are_tokens_of bytes ts e)

-- Each token of the bytes lies in them, with its quotes.
pub tokens_all_in : (bytes : List ℕ) (ts : List Token) → tokens_of bytes ≡ Ok ts → AllIn bytes ts
tokens_all_in bytes ts e = all_in bytes 0 ts (tokens_are_spans bytes ts e)
