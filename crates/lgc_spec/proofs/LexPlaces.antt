-- A fault of tokens stands in the bytes.
use Rattle.std.proofs.Common.{◌≡◌, ℕ, ◌+◌, ◌-◌, ◌<◌, ◌⊎◌, List, [], ◌∷◌, ◌++◌, length, drop, ap, arith, ⊎_elim}
use Rattle.std.specs.Prelude.{codes}
use Rattle.std.proofs.lemmas.List.{length-drop, length-append}
use Rattle.lgc_lexer.specs.declared.token.Token.{Token}
use Rattle.lgc_lexer.specs.declared.fault.LexFault.{LexFault}
use Rattle.lgc_lexer.specs.declared.fault.LexFault.TheVariants.{BadByte, OpenQuote, Memory}
use Rattle.lgc_lexer.specs.Cuts.{AreNext, HasFault, IsFaultOf, IsFaultAt, BeginsNothing, HasBadQuoted, IsUnclosed}

-- the fault stands before the end
abbrev pub IsBefore : ℕ → LexFault → Type 0
IsBefore end (BadByte offset) = offset < end
IsBefore end (OpenQuote offset) = offset < end
IsBefore end Memory = Unit {0}

begins_within : (bytes : List ℕ) → BeginsNothing bytes → 0 < length bytes
begins_within [] h = absurd h
begins_within (b ∷ bytes) h = omega arith

parts_within : (bytes inside more : List ℕ) (q bad n : ℕ) → bytes ≡ q ∷ inside ++ bad ∷ more → n ≡ 1 + length inside → n < length bytes
parts_within bytes inside more q bad n split place =
    let size : length bytes ≡ length (q ∷ inside ++ bad ∷ more) = ap length split in
    let parts : length (q ∷ inside ++ bad ∷ more) ≡ length (q ∷ inside) + length (bad ∷ more) = length-append (q ∷ inside) (bad ∷ more) in
    omega arith

bad_within : (n : ℕ) (bytes : List ℕ) → HasBadQuoted n bytes → n < length bytes
bad_within n bytes h = parts_within bytes h.0 h.2 _ h.1 n h.3 h.4

unclosed_within : (bytes : List ℕ) → IsUnclosed bytes → 0 < length bytes
unclosed_within [] h = ⊎_elim (λ q. absurd (no_head _ q.0 q.1)) (λ r. ⊎_elim (λ t. absurd (no_head _ t.0 t.1)) (λ k. absurd (no_comment k.0 k.1)) r) h where
  no_head : (b : ℕ) (inside : List ℕ) → [] ≡ b ∷ inside → ⊥
  no_head b inside e = cc

  no_comment : (inside : List ℕ) → [] ≡ codes "/*" ++ inside → ⊥
  no_comment inside e = cc
unclosed_within (b ∷ bytes) h = omega arith

at_within : (bytes : List ℕ) (at n : ℕ) → n < length (drop at bytes) → at + n < length bytes
at_within bytes at n lt = let size : length (drop at bytes) ≡ length bytes - at = length-drop at bytes in omega arith

fault_at_within : (bytes : List ℕ) (at : ℕ) (fault : LexFault) → IsFaultAt fault at (drop at bytes) → IsBefore (length bytes) fault
fault_at_within bytes at (BadByte bad) h =
    ⊎_elim
    (λ begins. let lt = at_within bytes at 0 (begins_within (drop at bytes) begins.1) in let e = begins.0 in omega arith)
    (λ quoted. let lt = at_within bytes at quoted.0 (bad_within quoted.0 (drop at bytes) quoted.2) in let e = quoted.1 in omega arith)
    h
fault_at_within bytes at (OpenQuote quote) h =
    let lt = at_within bytes at 0 (unclosed_within (drop at bytes) h.1) in let e = h.0 in omega arith
fault_at_within bytes at Memory h = absurd h

behind_tokens : (bytes : List ℕ) (fault : LexFault) (from : ℕ) (ts : List Token) → AreNext bytes (HasFault bytes fault) from ts → IsBefore (length bytes) fault
behind_tokens bytes fault from [] h = fault_at_within bytes h.0 fault h.3
behind_tokens bytes fault from (t ∷ ts) h = behind_tokens bytes fault t.end ts h.1

pub fault_within : (bytes : List ℕ) (fault : LexFault) → IsFaultOf bytes fault → IsBefore (length bytes) fault
fault_within bytes fault h = behind_tokens bytes fault 0 h.0 h.1

told_within : (bytes : List ℕ) (fault : LexFault) → (fault ≡ Memory) ⊎ IsFaultOf bytes fault → IsBefore (length bytes) fault
told_within bytes fault h = ⊎_elim (λ e. rw e tt) (λ f. fault_within bytes fault f) h

pub bad_offset : (bytes : List ℕ) (fault : LexFault) (offset : ℕ) → fault ≡ BadByte offset → (fault ≡ Memory) ⊎ IsFaultOf bytes fault → offset < length bytes
bad_offset bytes fault offset e h = rw e at (told_within bytes fault h)

pub open_offset : (bytes : List ℕ) (fault : LexFault) (offset : ℕ) → fault ≡ OpenQuote offset → (fault ≡ Memory) ⊎ IsFaultOf bytes fault → offset < length bytes
open_offset bytes fault offset e h = rw e at (told_within bytes fault h)
