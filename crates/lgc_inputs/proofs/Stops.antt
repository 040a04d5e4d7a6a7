-- What a stop tells is what reading tells.
use Rattle.std.proofs.Common.{◌≡◌, ℕ, List, [], ◌∷◌, length, Result, Ok, Err, refl, subst}
use Rattle.lgc_grammar.specs.Grammar.{Why}
use Rattle.lgc_lexer.specs.declared.token.Token.{Token}
use Rattle.lgc_syntax.specs.declared.fault.InputFault.{InputFault}
use Rattle.lgc_tokens.specs.declared.stop.Stop.{Stop}
use Rattle.lgc_tokens.specs.declared.stop.Stop.TheVariants as stop
use Rattle.lgc_tokens.specs.Spelled.{spelled_all, place}
use Rattle.lgc_tokens.specs.Gives.{FailsAs}
use Rattle.lgc_inputs.specs.Faults.{place_in}
use Rattle.lgc_inputs.specs.Told.{Tells, told_of, stop_told, place_of_first}

pub place_is_first : (bytes : List ℕ) (end : ℕ) (tokens : List Token) → place end (spelled_all bytes tokens) ≡ place_of_first end tokens
place_is_first bytes end [] = refl
place_is_first bytes end (t ∷ tokens) = refl

module _ {S : Type 0} (offset : S → ℕ) (see : List Token → List S) (seen : (end : ℕ) (tokens : List Token) → place_in offset end (see tokens) ≡ place_of_first end tokens) where
  pub stop_tells : {X Y : Type 0} (end : ℕ) (e : Stop) (read : Result Y (List S × Why)) (view : X → Y) → FailsAs see e read → Tells view (Err (stop_told end e)) (told_of offset end read)
  stop_tells end stop.Memory read view h = tt
  stop_tells end (stop.Unexpected rest) read view h = rw (h, seen end rest.now) refl
  stop_tells end (stop.Breaks n rest) read view h = rw (h, seen end rest.now) refl

-- what is told is told alike
pub tells_same : {X Y : Type 0} (view : X → Y) (result : Result X InputFault) (read told : Result Y InputFault) → read ≡ told → Tells view result read → Tells view result told
tells_same view result read told same h = subst (λ r. Tells view result r) same h
