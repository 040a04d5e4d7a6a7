-- Tokens with what they say.
use Rattle.std.specs.Prelude.{◌≤◌, ◌+◌, ℕ, Bool, true, false, ◌&&◌, List, [], ◌∷◌, length, codes}
use Rattle.std.specs.Str.{bytes_eq}
use Rattle.lgc_lexer.specs.declared.token.Kind.{Kind}
use Rattle.lgc_lexer.specs.declared.token.Kind.TheVariants as kind
use Rattle.lgc_lexer.specs.declared.token.Token.{Token}
use Rattle.lgc_lexer.specs.Spans.{content_of, AllIn}

-- A token, its content, and whether a Symbol ^ is the token behind it. A grammar speaks of these, since a text that goes on in
-- another way has other bytes. What is behind a token counts at one place, in rules: a 0 that begins a clause of an operator is a
-- literal's number where a ^ is behind it, and else the clause without literals. There the grammar asks for what the token says.
pub record Spelled : Type 0 where
  pub token : Token
  pub text : List ℕ
  pub before_caret : Bool

abbrev pub is_symbol : Kind → Bool
is_symbol kind.Symbol = true
is_symbol _ = false

-- whether the token is a Symbol ^
abbrev pub is_caret : List ℕ → Token → Bool
is_caret bytes t = is_symbol t.kind && bytes_eq (content_of bytes t) (codes "^")

-- whether such a token comes first
abbrev pub begins_with_caret : List ℕ → List Token → Bool
begins_with_caret bytes [] = false
begins_with_caret bytes (t ∷ _) = is_caret bytes t

-- a token before others
abbrev pub spelled : List ℕ → Token → List Token → Spelled
spelled bytes t rest = record { token = t; text = content_of bytes t; before_caret = begins_with_caret bytes rest }

abbrev pub spelled_all : List ℕ → List Token → List Spelled
spelled_all bytes [] = []
spelled_all bytes (t ∷ rest) = spelled bytes t rest ∷ spelled_all bytes rest

-- the offset of the token
abbrev pub place_of : Spelled → ℕ
place_of t = t.token.start

-- the offset of the first token, or of the end
abbrev pub place : ℕ → List Spelled → ℕ
place end [] = end
place end (t ∷ _) = place_of t

-- ---- what is left of the tokens

pub record IsRest (bytes : List ℕ) (ts rest : List Token) : Type 0 where
  pub shorter : length rest ≤ length ts
  pub inside : AllIn bytes rest

-- the same behind one token at least
pub record IsShorter (bytes : List ℕ) (ts rest : List Token) : Type 0 where
  pub shorter : length rest + 1 ≤ length ts
  pub inside : AllIn bytes rest
