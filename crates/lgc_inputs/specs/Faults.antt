-- Faults of input texts at their places.
--
-- A grammar sees tokens with what they say. Every definition here is for any such tokens S, of which `offset` tells where one stands.
use Rattle.std.specs.Prelude.{◌≡◌, ℕ, List, [], ◌∷◌}
use Rattle.lgc_grammar.specs.Grammar.{Grammar, Language, Why, Unexpected, Breaks, StopsAt}
use Rattle.lgc_syntax.specs.declared.fault.InputFault.{InputFault}
use Rattle.lgc_syntax.specs.declared.fault.InputFault.TheVariants as fault
use Rattle.lgc_syntax.specs.declared.fault.TheConstants.{UNEXPECTED}

-- the offset of the first token, or of the end
abbrev pub place_in : {S : Type 0} → (S → ℕ) → ℕ → List S → ℕ
place_in offset end [] = end
place_in offset end (t ∷ _) = offset t

-- the fault for which reading stops before these tokens: its number, and the place of the first of them
abbrev pub fault_of : {S : Type 0} → (S → ℕ) → ℕ → List S × Why → InputFault
fault_of offset end (rest, Unexpected) = fault.Fault UNEXPECTED (place_in offset end rest)
fault_of offset end (rest, Breaks n) = fault.Fault n (place_in offset end rest)

-- The fault is that of the token before which reading the tokens stops.
abbrev pub IsFaultIn : {S A : Type 0} → (S → ℕ) → Grammar S A → Language S → ℕ → List S → InputFault → Type 0
IsFaultIn {S} offset L P end ts f = (rest : List S) × (why : Why) × StopsAt L P ts rest why × (f ≡ fault_of offset end (rest, why))
