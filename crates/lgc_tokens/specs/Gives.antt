-- What the functions that read have to answer.
use Rattle.std.specs.Prelude.{◌≡◌, ℕ, List, Result, Ok, Err}
use Rattle.lgc_grammar.specs.Grammar.{Why, Unexpected, Breaks}
use Rattle.lgc_lexer.specs.declared.token.Token.{Token}
use Rattle.lgc_tokens.specs.declared.stop.Stop.{Stop}
use Rattle.lgc_tokens.specs.declared.stop.Stop.TheVariants as stop
use Rattle.lgc_tokens.specs.Spelled.{Spelled, spelled_all}

-- Reading stops before the same tokens, for the same reason. Tokens are seen by see, with what a grammar asks of them.
abbrev pub FailsAs : {S Y : Type 0} → (List Token → List S) → Stop → Result Y (List S × Why) → Type 0
FailsAs see stop.Memory read = Unit {0}
FailsAs see (stop.Unexpected rest) read = read ≡ Err (see rest.now, Unexpected)
FailsAs see (stop.Breaks n rest) read = read ≡ Err (see rest.now, Breaks n)

-- What a function returned, seen by view, is what reading gives, unless memory ran out.
abbrev pub GivesAs : {S X Y : Type 0} → (List Token → List S) → (X → Y) → Result X Stop → Result Y (List S × Why) → Type 0
GivesAs see view (Ok x) read = read ≡ Ok (view x)
GivesAs see view (Err e) read = FailsAs see e read

-- ---- where tokens are seen with what they say

abbrev pub Fails : {Y : Type 0} → List ℕ → Stop → Result Y (List Spelled × Why) → Type 0
Fails bytes e read = FailsAs (spelled_all bytes) e read

abbrev pub Gives : {X Y : Type 0} → List ℕ → (X → Y) → Result X Stop → Result Y (List Spelled × Why) → Type 0
Gives bytes view result read = GivesAs (spelled_all bytes) view result read
