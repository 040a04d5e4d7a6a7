-- What the phrase that begins at a place among tokens gives: its tree and the place behind it, or the first fault.
use Rattle.std.specs.Prelude.{◌≡◌, ℕ, List, [], ◌∷◌, ◌++◌, drop, Result, Ok, Err}
use Rattle.lgc_grammar.specs.Grammar.{Grammar, Language, IsFront, Why}
use Rattle.lgc_syntax.specs.declared.fault.InputFault.{InputFault}
use Rattle.lgc_inputs.specs.Faults.{IsFaultIn, fault_of}

-- A phrase ends before these tokens: no phrase begins with it and the next token.
abbrev pub EndsBefore : {S : Type 0} → Language S → List S → List S → Type 0
EndsBefore P front [] = Unit {0}
EndsBefore P front (t ∷ _) = IsFront P (front ++ t ∷ []) → ⊥

-- The tokens begin with a phrase of this tree, which ends before these others.
abbrev pub BeginsWith : {S A : Type 0} → Grammar S A → Language S → List S → A → List S → Type 0
BeginsWith {S} L P ts tree rest = (front : List S) × (ts ≡ front ++ rest) × L (Ok tree) front × EndsBefore P front rest

-- What the tokens from the place `at` on give: they begin with a phrase, and the answer is its tree and the place of the token behind
-- it. Else they begin with none, and the fault is at the first token that breaks a rule of the grammar, or with which no phrase goes on.
abbrev pub PlaceGives : {S A : Type 0} → (S → ℕ) → Grammar S A → Language S → ℕ → List S → ℕ → Result (A × ℕ) InputFault → Type 0
PlaceGives offset L P end ts at (Ok x) = BeginsWith L P (drop at ts) x.0 (drop x.1 ts)
PlaceGives {S} {A} offset L P end ts at (Err f) = ((tree : A) (rest : List S) → BeginsWith L P (drop at ts) tree rest → ⊥) × IsFaultIn offset L P end (drop at ts) f

-- An answer with the tokens that are left in the place of where they begin.
abbrev pub with_rest : {S A : Type 0} → List S → Result (A × ℕ) InputFault → Result (A × List S) InputFault
with_rest ts (Ok x) = Ok (x.0, drop x.1 ts)
with_rest ts (Err f) = Err f

-- ---- by any account of what reading answers

-- What tokens give where `Answers` is what reading has to answer. An answer is seen by view, with the tokens that are left.
abbrev pub AccountGives : {S A X : Type 0} → (S → ℕ) → (List S → Result (A × List S) (List S × Why) → Type 0) → ℕ → (X → A × List S) → List S → Result X InputFault → Type 0
AccountGives offset Answers end view ts (Ok x) = Answers ts (Ok (view x))
AccountGives {S} offset Answers end view ts (Err f) = (e : List S × Why) × Answers ts (Err e) × (f ≡ fault_of offset end e)

-- an answer as it is seen
abbrev pub viewed : {X A : Type 0} → (X → A) → Result X InputFault → Result A InputFault
viewed view (Ok x) = Ok (view x)
viewed view (Err f) = Err f
