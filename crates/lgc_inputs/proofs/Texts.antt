-- What reading a whole text tells is what the text gives, and the one thing that it gives.
use Rattle.std.proofs.Common.{◌≡◌, ℕ, ◌<◌, ◌≤◌, Bool, true, false, List, ◌∷◌, ◌++◌, length, Result, Ok, Err, refl, sym, ap, subst, ◌∙◌, []}
use Rattle.std.specs.Prelude.{nat_lt}
use Rattle.std.proofs.lemmas.Bool.{ltb-true, ltb-false, le-ltb}
use Rattle.lgc_grammar.specs.Grammar.{Grammar, Language, Why, Unexpected, Breaks, StopsAt, Answers, NextBreaks}
use Rattle.lgc_grammar.proofs.BrokenRules.{Only}
use Rattle.lgc_lexer.specs.declared.token.Token.{Token}
use Rattle.lgc_lexer.specs.declared.fault.LexFault.{LexFault}
use Rattle.lgc_lexer.specs.declared.fault.LexFault.TheVariants.{BadByte, OpenQuote, Memory}
use Rattle.lgc_lexer.specs.Tokens.{tokens_of}
use Rattle.lgc_syntax.specs.declared.fault.InputFault.{InputFault}
use Rattle.lgc_syntax.specs.declared.fault.InputFault.TheVariants as fault
use Rattle.lgc_syntax.specs.declared.fault.TheConstants.{FILE_TOO_LONG, BAD_BYTE, OPEN_QUOTE, UNEXPECTED}
use Rattle.lgc_inputs.specs.Faults.{IsFaultIn, fault_of}
use Rattle.lgc_inputs.specs.Texts.{cut, tokens_within, TokensGive, CutGives, TextGives, IsTextOf}
use Rattle.lgc_inputs.specs.Told.{IfFault, Holds, IsTree, Tells, told_of, text_told}

-- where the rules of a grammar have numbers of faults, a fault has one
pub fault_number : {S A : Type 0} (offset : S → ℕ) (Q : ℕ → Type 0) (L : Grammar S A) (P : Language S) (end : ℕ) (ts : List S) (number at : ℕ) → Only Q L → Q UNEXPECTED → IsFaultIn offset L P end ts (fault.Fault number at) → Q number
fault_number offset Q L P end ts number at numbers unexpected (rest, Unexpected, stops, is) = let same : number ≡ UNEXPECTED = cc in subst Q (sym same) unexpected
fault_number {S} offset Q L P end ts number at numbers unexpected (rest, Breaks n, stops, is) = let same : number ≡ n = cc in subst Q (sym same) (by rest stops.reason.1)
  where
    by : (rest : List S) → NextBreaks L n stops.front rest → Q n
    by [] h = absurd h
    by (t ∷ rest) h = numbers.only n (stops.front ++ t ∷ []) h

-- no want of memory
abbrev Settled : {X : Type 0} → Result X InputFault → Type 0
Settled (Err fault.Memory) = ⊥
Settled _ = Unit {0}

-- `read` gives what reading all tokens has to answer, which is one thing.
module _ {S A : Type 0} (offset : S → ℕ) (see : List Token → List S) (L : Grammar S A) (P : Language S) (read : List S → Result A (List S × Why)) (answers : (ts : List S) → Answers L P ts (read ts)) (exact : (ts : List S) (answer : Result A (List S × Why)) → Answers L P ts answer → read ts ≡ answer) where
  -- a fault of the tokens is the one that reading them tells
  pub fault_told : (end : ℕ) (ts : List S) (f : InputFault) → IsFaultIn offset L P end ts f → told_of offset end (read ts) ≡ Err f
  fault_told end ts f (rest, why, stops, is) = rw (exact ts (Err (rest, why)) stops, is) refl

  module _ (limit : ℕ) (bytes : List ℕ) where
    tokens_give : (tokens : List Token) (answer : Result A (List S × Why)) → Answers L P (see tokens) answer → TokensGive offset see L P (length bytes) tokens (told_of offset (length bytes) answer)
    tokens_give tokens (Ok tree) h = h
    tokens_give tokens (Err (rest, why)) h = (rest, why, h, refl)

    text_gives : TextGives offset see L P limit bytes (text_told offset see read limit bytes)
    text_gives = by (tokens_within limit bytes) refl
      where
        by : (cut : Result (List Token) InputFault) → tokens_within limit bytes ≡ cut → TextGives offset see L P limit bytes (text_told offset see read limit bytes)
        by (Ok tokens) e = rw e (tokens_give tokens (read (see tokens)) (answers (see tokens)))
        by (Err f) e = rw e refl

    tokens_once : (tokens : List Token) (told : Result A InputFault) → TokensGive offset see L P (length bytes) tokens told → told_of offset (length bytes) (read (see tokens)) ≡ told
    tokens_once tokens (Ok tree) h = ap (told_of offset (length bytes)) (exact (see tokens) (Ok tree) h)
    tokens_once tokens (Err f) h = fault_told (length bytes) (see tokens) f h

    -- what the bytes give is what reading them tells, so it is one
    pub text_once : (told : Result A InputFault) → TextGives offset see L P limit bytes told → text_told offset see read limit bytes ≡ told
    text_once told h = by (tokens_within limit bytes) refl
      where
        by : (cut : Result (List Token) InputFault) → tokens_within limit bytes ≡ cut → text_told offset see read limit bytes ≡ told
        by (Ok tokens) e = rw e (tokens_once tokens told (rw e at h))
        by (Err f) e = rw e (sym (rw e at h))

    pub text_answer : (result : Result A InputFault) → Tells (λ tree. tree) result (text_told offset see read limit bytes) → Holds (TextGives offset see L P limit bytes) result
    text_answer (Ok tree) told = subst (TextGives offset see L P limit bytes) told text_gives
    text_answer (Err fault.Memory) told = tt
    text_answer (Err (fault.Fault number at)) told = subst (TextGives offset see L P limit bytes) told text_gives

    pub text_complete : (tree : A) → IsTextOf see L limit bytes tree → text_told offset see read limit bytes ≡ Ok tree
    text_complete tree h = rw (le-ltb limit (length bytes) h.short, h.lexed, exact (see h.tokens) (Ok tree) h.derived) refl

    pub text_is : (tree : A) (result : Result A InputFault) → IsTextOf see L limit bytes tree → Tells (λ tree. tree) result (text_told offset see read limit bytes) → IsTree (λ tree. tree) result tree
    text_is tree (Ok x) h told = let same = sym told ∙ text_complete tree h in cc
    text_is tree (Err fault.Memory) h told = tt
    text_is tree (Err (fault.Fault number at)) h told = let same = sym told ∙ text_complete tree h in absurd cc

    cut_text : (short : length bytes ≤ limit) (lexed : Result (List Token) LexFault) (tree : A) → tokens_of bytes ≡ lexed → CutGives offset see L P (length bytes) (cut lexed) (Ok tree) → IsTextOf see L limit bytes tree
    cut_text short (Ok tokens) tree e h = record { short = short; tokens = tokens; lexed = e; derived = h }
    cut_text short (Err (BadByte at)) tree e h = absurd cc
    cut_text short (Err (OpenQuote at)) tree e h = absurd cc
    cut_text short (Err Memory) tree e h = absurd cc

    -- where the bytes give a tree they are a text with it
    pub text_of : (tree : A) → TextGives offset see L P limit bytes (Ok tree) → IsTextOf see L limit bytes tree
    text_of tree h = by (nat_lt limit (length bytes)) refl
      where
        by : (long : Bool) → nat_lt limit (length bytes) ≡ long → IsTextOf see L limit bytes tree
        by true e = absurd (let refused = rw e at h in cc)
        by false e = cut_text (ltb-false limit (length bytes) e) (tokens_of bytes) tree refl (rw e at h)

    -- the numbers of faults, where the rules of the grammar have numbers of such
    module _ (Q : ℕ → Type 0) (numbers : Only Q L) (too_long : limit < length bytes → Q FILE_TOO_LONG) (bad_byte : Q BAD_BYTE) (open_quote : Q OPEN_QUOTE) (unexpected : Q UNEXPECTED) where
      cut_number : (lexed : Result (List Token) LexFault) (number at : ℕ) → CutGives offset see L P (length bytes) (cut lexed) (Err (fault.Fault number at)) → Q number
      cut_number (Ok tokens) number at h = fault_number offset Q L P (length bytes) (see tokens) number at numbers unexpected h
      cut_number (Err (BadByte place)) number at h = let same : number ≡ BAD_BYTE = cc in subst Q (sym same) bad_byte
      cut_number (Err (OpenQuote place)) number at h = let same : number ≡ OPEN_QUOTE = cc in subst Q (sym same) open_quote
      cut_number (Err Memory) number at h = absurd cc

      text_number : (number at : ℕ) → TextGives offset see L P limit bytes (Err (fault.Fault number at)) → Q number
      text_number number at h = by (nat_lt limit (length bytes)) refl
        where
          by : (long : Bool) → nat_lt limit (length bytes) ≡ long → Q number
          by true e = let long = rw e at h in let same : number ≡ FILE_TOO_LONG = cc in subst Q (sym same) (too_long (ltb-true limit (length bytes) e))
          by false e = cut_number (tokens_of bytes) number at (rw e at h)

      pub text_faults : (result : Result A InputFault) → Holds (TextGives offset see L P limit bytes) result → IfFault result Q
      text_faults (Ok tree) h = tt
      text_faults (Err fault.Memory) h = tt
      text_faults (Err (fault.Fault number at)) h = text_number number at h
