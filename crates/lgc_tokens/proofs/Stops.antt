-- What a function that reads passes on: a stop, a success, and the tokens behind all that is read.
use Rattle.std.proofs.Common.{◌≡◌, ◌≤◌, ℕ, List, [], ◌∷◌, length, Result, Ok, Err, OnOk, refl, arith}
use Rattle.lgc_grammar.specs.Grammar.{Why, Unexpected, Breaks}
use Rattle.lgc_grammar.specs.Reading.{Reader, whole}
use Rattle.lgc_lexer.specs.declared.token.Token.{Token}
use Rattle.lgc_tokens.specs.declared.stop.Stop.{Stop}
use Rattle.lgc_tokens.specs.declared.stop.Stop.TheVariants as stop
use Rattle.lgc_tokens.specs.Spelled.{Spelled, spelled_all}
use Rattle.lgc_tokens.specs.Gives.{FailsAs, Fails}
use Rattle.lgc_tokens.proofs.Places.{length-spelled}

pub fails_through_as : {S Y Z : Type 0} (see : List Token → List S) (e : Stop) (r : Result Y (List S × Why)) (s : Result Z (List S × Why)) → ((d : List S × Why) → r ≡ Err d → s ≡ Err d) → FailsAs see e r → FailsAs see e s
fails_through_as see stop.Memory r s to h = tt
fails_through_as see (stop.Unexpected rest) r s to h = to (see rest.now, Unexpected) h
fails_through_as see (stop.Breaks n rest) r s to h = to (see rest.now, Breaks n) h

pub fails_through : {Y Z : Type 0} (bytes : List ℕ) (e : Stop) (r : Result Y (List Spelled × Why)) (s : Result Z (List Spelled × Why)) → ((d : List Spelled × Why) → r ≡ Err d → s ≡ Err d) → Fails bytes e r → Fails bytes e s
fails_through bytes = fails_through_as (spelled_all bytes)

-- what holds on success
pub when_ok : {V E P : Type 0} (r : Result V E) (v : V) → r ≡ Ok v → OnOk r P → P
when_ok (Ok x) v e h = h
when_ok (Err d) v e h = absurd cc

-- tokens behind all that is read
pub unread : {S A : Type 0} (p : Reader S A) (ts rest : List S) (a : A) → 1 ≤ length rest → p ts ≡ Ok (a, rest) → whole p ts ≡ Err (rest, Unexpected)
unread p ts [] a some e = absurd (omega arith)
unread p ts (t ∷ rest) a some e = rw e refl

pub left_over : {A : Type 0} (p : Reader Spelled A) (ts : List Spelled) (a : A) (bytes : List ℕ) (rest : List Token) → 1 ≤ length rest → p ts ≡ Ok (a, spelled_all bytes rest) → whole p ts ≡ Err (spelled_all bytes rest, Unexpected)
left_over p ts a bytes rest some e = unread p ts (spelled_all bytes rest) a (rw (length-spelled bytes rest) some) e
