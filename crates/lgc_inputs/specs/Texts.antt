-- What the bytes of a whole text give: the tree of a grammar, or the first fault.
use Rattle.std.specs.Prelude.{◌≡◌, ◌≤◌, ℕ, nat_lt, List, length, Result, Ok, Err, if◌then◌else◌}
use Rattle.lgc_grammar.specs.Grammar.{Grammar, Language}
use Rattle.lgc_lexer.specs.declared.token.Token.{Token}
use Rattle.lgc_lexer.specs.declared.fault.LexFault.{LexFault}
use Rattle.lgc_lexer.specs.declared.fault.LexFault.TheVariants.{BadByte, OpenQuote, Memory}
use Rattle.lgc_lexer.specs.Tokens.{tokens_of}
use Rattle.lgc_syntax.specs.declared.fault.InputFault.{InputFault}
use Rattle.lgc_syntax.specs.declared.fault.InputFault.TheVariants as fault
use Rattle.lgc_syntax.specs.declared.fault.TheConstants.{FILE_TOO_LONG, BAD_BYTE, OPEN_QUOTE}
use Rattle.lgc_inputs.specs.Faults.{IsFaultIn}

-- the tokens that were cut, or the fault for which there are none
abbrev pub cut : Result (List Token) LexFault → Result (List Token) InputFault
cut (Ok tokens) = Ok tokens
cut (Err (BadByte offset)) = Err (fault.Fault BAD_BYTE offset)
cut (Err (OpenQuote offset)) = Err (fault.Fault OPEN_QUOTE offset)
cut (Err Memory) = Err fault.Memory

-- the tokens of a text of at most so many bytes: its length is looked at first, and then the tokens of the whole text
abbrev pub tokens_within : ℕ → List ℕ → Result (List Token) InputFault
tokens_within limit bytes = if nat_lt limit (length bytes) then Err (fault.Fault FILE_TOO_LONG limit) else cut (tokens_of bytes)

module _ {S A : Type 0} (offset : S → ℕ) (see : List Token → List S) (L : Grammar S A) (P : Language S) (end : ℕ) where
  -- What the tokens of a text give: the tree of the grammar. Else the fault is at the first token that breaks a rule of the
  -- grammar, or with which no text goes on.
  abbrev pub TokensGive : List Token → Result A InputFault → Type 0
  TokensGive tokens (Ok tree) = L (Ok tree) (see tokens)
  TokensGive tokens (Err f) = IsFaultIn offset L P end (see tokens) f

  -- the same where there may be no tokens
  abbrev pub CutGives : Result (List Token) InputFault → Result A InputFault → Type 0
  CutGives (Ok tokens) told = TokensGive tokens told
  CutGives (Err f) told = told ≡ Err f

-- What the bytes of a text of at most so many bytes give.
abbrev pub TextGives : {S A : Type 0} → (S → ℕ) → (List Token → List S) → Grammar S A → Language S → ℕ → List ℕ → Result A InputFault → Type 0
TextGives offset see L P limit bytes told = CutGives offset see L P (length bytes) (tokens_within limit bytes) told

-- The bytes are a text of at most so many bytes, with this tree.
pub record IsTextOf {S A : Type 0} (see : List Token → List S) (L : Grammar S A) (limit : ℕ) (bytes : List ℕ) (tree : A) : Type 0 where
  pub short : length bytes ≤ limit
  pub tokens : List Token
  pub lexed : tokens_of bytes ≡ Ok tokens
  pub derived : L (Ok tree) (see tokens)
