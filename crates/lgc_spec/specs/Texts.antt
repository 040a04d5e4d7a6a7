-- The tokens and the tree of a text that stands in the file. Every place is one in the file.
use Rattle.std.specs.Prelude.{◌≡◌, ℕ, ◌+◌, List, length, Result, Ok, Err}
use Rattle.lgc_grammar.specs.Grammar.{Grammar, Phrase, StopsAt, Unexpected}
use Rattle.lgc_lexer.specs.declared.token.Token.{Token}
use Rattle.lgc_lexer.specs.declared.fault.LexFault.{LexFault}
use Rattle.lgc_lexer.specs.declared.fault.LexFault.TheVariants.{BadByte, OpenQuote, Memory}
use Rattle.lgc_lexer.specs.Tokens.{tokens_of}
use Rattle.lgc_tokens.specs.Spelled.{Spelled, spelled_all, place}
use Rattle.lgc_spec.specs.declared.fault.SpecFault.{SpecFault}
use Rattle.lgc_spec.specs.declared.fault.SpecFault.TheVariants as fault
use Rattle.lgc_spec.specs.declared.fault.TheConstants.{BAD_BYTE, OPEN_QUOTE, UNEXPECTED}
use Rattle.lgc_spec.specs.Faults.{fault_at}

-- the tokens of a text, whose first byte stands at `start`
abbrev pub lexed : ℕ → Result (List Token) LexFault → Result (List Token) SpecFault
lexed start (Ok tokens) = Ok tokens
lexed start (Err (BadByte offset)) = Err (fault_at BAD_BYTE (start + offset))
lexed start (Err (OpenQuote offset)) = Err (fault_at OPEN_QUOTE (start + offset))
lexed start (Err Memory) = Err fault.Memory

abbrev pub tokens_given : ℕ → List ℕ → Result (List Token) SpecFault
tokens_given start text = lexed start (tokens_of text)

-- The tree of the text's tokens. A fault is at the first token behind which no text of the grammar goes on, or at
-- the end of the text where that comes too early.
abbrev pub Parses : {A : Type 0} → Grammar Spelled A → ℕ → List ℕ → List Token → Result A SpecFault → Type 0
Parses L start text tokens (Ok tree) = L (Ok tree) (spelled_all text tokens)
Parses L start text tokens (Err f) =
    (rest : List Spelled) × StopsAt L (Phrase L) (spelled_all text tokens) rest Unexpected × (f ≡ fault_at UNEXPECTED (start + place (length text) rest))
