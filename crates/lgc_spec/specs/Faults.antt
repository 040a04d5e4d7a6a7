-- Faults, and what a step of the order of refusals tells.
use Rattle.std.specs.Prelude.{◌≡◌, ℕ, List, Option, Some, None, Result, Ok, Err}
use Rattle.lgc_spec.specs.declared.fault.Kept.TheVariants.{Nothing, Values}
use Rattle.lgc_spec.specs.declared.fault.SpecFault.{SpecFault}
use Rattle.lgc_spec.specs.declared.fault.SpecFault.TheVariants.{Fault, Memory}

-- a fault that keeps nothing
abbrev pub fault_at : ℕ → ℕ → SpecFault
fault_at number offset = Fault number offset Nothing

-- a fault that keeps the names of a row's arguments
abbrev pub keeping : ℕ → ℕ → List (List ℕ) → SpecFault
keeping number offset names = Fault number offset (Values names)

-- a fault where there is one, and else what comes after it
abbrev pub unless : {X : Type 0} → Option SpecFault → Result X SpecFault → Result X SpecFault
unless None after = after
unless (Some fault) after = Err fault

-- a fault of the first, and else what the second makes of its part
infixl 10 ◌>>=◌
abbrev pub ◌>>=◌ : {X Y : Type 0} → Result X SpecFault → (X → Result Y SpecFault) → Result Y SpecFault
Ok x >>= next = next x
Err fault >>= next = Err fault

-- a fault other than want of memory is the one that the definition tells
abbrev pub FailsAs : {X : Type 0} → SpecFault → Result X SpecFault → Type 0
FailsAs Memory told = Unit {0}
FailsAs (Fault number offset kept) told = told ≡ Err (Fault number offset kept)

-- a function answers what the definition tells, or memory ran out
abbrev pub Gives : {X Y : Type 0} → (X → Y) → Result X SpecFault → Result Y SpecFault → Type 0
Gives view (Ok x) told = told ≡ Ok (view x)
Gives view (Err fault) told = FailsAs fault told

-- what the definition tells is that there is no fault, or this one
abbrev pub Passes : Result Unit SpecFault → Option SpecFault → Type 0
Passes (Ok _) told = told ≡ None
Passes (Err Memory) told = Unit {0}
Passes (Err (Fault number offset kept)) told = told ≡ Some (Fault number offset kept)

-- a fault of the first, and else what is said of its part
abbrev pub Follows : {X Y : Type 0} → Result X SpecFault → (X → Result Y SpecFault → Type 0) → Result Y SpecFault → Type 0
Follows (Ok x) says told = says x told
Follows (Err fault) says told = told ≡ Err fault

-- the same where the first is given by what is said of it
abbrev pub Then : {X Y : Type 0} → (Result X SpecFault → Type 0) → (X → Result Y SpecFault → Type 0) → Result Y SpecFault → Type 0
Then {X} first says told = (part : Result X SpecFault) × first part × Follows part says told

-- a function answers what is said, or memory ran out
abbrev pub Answers : {X : Type 0} → (Result X SpecFault → Type 0) → Result X SpecFault → Type 0
Answers says (Err Memory) = Unit {0}
Answers says (Ok x) = says (Ok x)
Answers says (Err (Fault number offset kept)) = says (Err (Fault number offset kept))
