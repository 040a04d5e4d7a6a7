-- Tokens with what they say, from a place on.
use Rattle.std.proofs.Common.{◌≡◌, ℕ, zero, suc, ◌+◌, ◌-◌, ◌≤◌, Bool, List, [], ◌∷◌, ◌++◌, length, take, drop, Ok, refl, ap, length-append, arith}
use Rattle.std.specs.Prelude.{◌||◌, ◌==◌}
use Rattle.std.specs.Char.{is_ascii_digit, is_ascii_lowercase, is_ascii_uppercase}
use Rattle.std.proofs.lemmas.List.{length-take}
use Rattle.std.proofs.Math.Seq.{drop-append_seam}
use Rattle.lgc_lexer.specs.declared.token.Token.{Token}
use Rattle.lgc_lexer.specs.declared.token.Kind.{Kind}
use Rattle.lgc_lexer.specs.declared.token.Kind.TheVariants.{Lower, Upper, Digits, Quoted, Text, Symbol, Punct}
use Rattle.lgc_lexer.specs.Forms.{is_word, is_symbol, is_punct, IsRun, IsOne, HasForm}
use Rattle.lgc_lexer.specs.Cuts.{AreNext}
use Rattle.lgc_lexer.specs.Spans.{AllIn, text_of}
use Rattle.lgc_lexer.specs.Tokens.{tokens_of}
use Rattle.lgc_lexer.proofs.CutLaws.{are_tokens_of}
use Rattle.lgc_tokens.specs.Spelled.{spelled_all}

pub length-spelled : (bytes : List ℕ) (ts : List Token) → length (spelled_all bytes ts) ≡ length ts
length-spelled bytes [] = refl
length-spelled bytes (t ∷ ts) = ap suc (length-spelled bytes ts)

pub spelled_drop : (bytes : List ℕ) (ts : List Token) (i : ℕ) → spelled_all bytes (drop i ts) ≡ drop i (spelled_all bytes ts)
spelled_drop bytes ts zero = refl
spelled_drop bytes [] (suc i) = refl
spelled_drop bytes (t ∷ ts) (suc i) = spelled_drop bytes ts i

pub all_in_drop : (bytes : List ℕ) (ts : List Token) (i : ℕ) → AllIn bytes ts → AllIn bytes (drop i ts)
all_in_drop bytes ts zero h = h
all_in_drop bytes [] (suc i) h = h
all_in_drop bytes (t ∷ ts) (suc i) h = all_in_drop bytes ts i h.1

-- what is behind the front
pub drop_to : {T : Type 0} (ts front rest : List T) → ts ≡ front ++ rest → drop (length ts - length rest) ts ≡ rest
drop_to ts front rest split =
    let long : length ts - length rest ≡ length front = omega (arith, ap length split, length-append front rest) in
    rw (long, split) (drop-append_seam front rest)

-- ---- how many tokens there are

run_has_byte : (first more : ℕ → Bool) (text : List ℕ) → IsRun first more text → 1 ≤ length text
run_has_byte first more [] h = absurd h
run_has_byte first more (b ∷ text) h = omega arith

one_has_byte : (test : ℕ → Bool) (text : List ℕ) → IsOne test text → 1 ≤ length text
one_has_byte test [] h = absurd h
one_has_byte test (b ∷ text) h = omega arith

has_byte : (kind : Kind) (text : List ℕ) → HasForm kind text → 1 ≤ length text
has_byte Lower text h = run_has_byte is_ascii_lowercase is_word text h
has_byte Upper text h = run_has_byte (λ b. is_ascii_uppercase b || b == 95) is_word text h
has_byte Digits text h = run_has_byte is_ascii_digit is_word text h
has_byte Quoted text (inside, is, some, h) = omega (arith, ap length is)
has_byte Text text (inside, is, h) = omega (arith, ap length is)
has_byte Symbol text h = run_has_byte is_symbol is_symbol text h
has_byte Punct text h = one_has_byte is_punct text h

few_next : (bytes : List ℕ) (ends : ℕ → Type 0) (from : ℕ) (ts : List Token) → from ≤ length bytes → AreNext bytes ends from ts → length ts + from ≤ length bytes
few_next bytes ends from [] within h = omega arith
few_next bytes ends from (t ∷ ts) within (next, others) =
    let byte : 1 ≤ length (take (t.end - t.start) (drop t.start bytes)) = has_byte t.kind (text_of bytes t) next.form in
    let below = few_next bytes ends t.end ts next.inside.1 others in
    omega (arith, next.behind, length-take (t.end - t.start) (drop t.start bytes))

-- each has a byte
pub few_tokens : (bytes : List ℕ) (ts : List Token) → tokens_of bytes ≡ Ok ts → length ts ≤ length bytes
few_tokens bytes ts e = let h = few_next bytes _ 0 ts (omega arith) (are_tokens_of bytes ts e) in omega arith
