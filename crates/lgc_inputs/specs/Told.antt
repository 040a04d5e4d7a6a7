-- What callers are answered.
use Rattle.std.specs.Prelude.{◌≡◌, ℕ, List, [], ◌∷◌, length, Result, Ok, Err}
use Rattle.lgc_grammar.specs.Grammar.{Why}
use Rattle.lgc_grammar.specs.Reading.{and_then}
use Rattle.lgc_lexer.specs.declared.token.Token.{Token}
use Rattle.lgc_syntax.specs.declared.fault.InputFault.{InputFault}
use Rattle.lgc_syntax.specs.declared.fault.InputFault.TheVariants as fault
use Rattle.lgc_syntax.specs.declared.fault.TheConstants.{UNEXPECTED}
use Rattle.lgc_tokens.specs.declared.stop.Stop.{Stop}
use Rattle.lgc_tokens.specs.declared.stop.Stop.TheVariants as stop
use Rattle.lgc_inputs.specs.Faults.{fault_of}
use Rattle.lgc_inputs.specs.Texts.{tokens_within}

-- The number of a fault has this property.
abbrev pub IfFault : {X : Type 0} → Result X InputFault → (ℕ → Type 0) → Type 0
IfFault (Ok x) says = Unit {0}
IfFault (Err fault.Memory) says = Unit {0}
IfFault (Err (fault.Fault number offset)) says = says number

-- What a function answered has this property. Nothing is said where memory ran out.
abbrev pub Holds : {X : Type 0} → (Result X InputFault → Type 0) → Result X InputFault → Type 0
Holds says (Ok x) = says (Ok x)
Holds says (Err fault.Memory) = Unit {0}
Holds says (Err (fault.Fault number offset)) = says (Err (fault.Fault number offset))

-- It is this, unless memory ran out.
abbrev pub IsTree : {X A : Type 0} → (X → A) → Result X InputFault → A → Type 0
IsTree view (Ok x) tree = view x ≡ tree
IsTree view (Err fault.Memory) tree = Unit {0}
IsTree view (Err (fault.Fault number offset)) tree = ⊥

-- What a function returned, seen by view, is what reading tells, unless memory ran out.
abbrev pub Tells : {X Y : Type 0} → (X → Y) → Result X InputFault → Result Y InputFault → Type 0
Tells view (Ok x) told = told ≡ Ok (view x)
Tells view (Err fault.Memory) told = Unit {0}
Tells view (Err (fault.Fault number offset)) told = told ≡ Err (fault.Fault number offset)

-- what reading tells
abbrev pub told_of : {S A : Type 0} → (S → ℕ) → ℕ → Result A (List S × Why) → Result A InputFault
told_of offset end (Ok a) = Ok a
told_of offset end (Err e) = Err (fault_of offset end e)

-- what reading all tokens of a text of at most so many bytes tells
abbrev pub text_told : {S A : Type 0} → (S → ℕ) → (List Token → List S) → (List S → Result A (List S × Why)) → ℕ → List ℕ → Result A InputFault
text_told offset see read limit bytes = and_then (tokens_within limit bytes) (λ tokens. told_of offset (length bytes) (read (see tokens)))

-- the offset of the first token, or of the end
abbrev pub place_of_first : ℕ → List Token → ℕ
place_of_first end [] = end
place_of_first end (t ∷ _) = t.start

-- what a stop tells
abbrev pub stop_told : ℕ → Stop → InputFault
stop_told end stop.Memory = fault.Memory
stop_told end (stop.Unexpected rest) = fault.Fault UNEXPECTED (place_of_first end rest.now)
stop_told end (stop.Breaks n rest) = fault.Fault n (place_of_first end rest.now)
