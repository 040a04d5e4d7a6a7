-- Faults of items that are looked at in their order.
use Rattle.std.specs.Prelude.{◌≡◌, ℕ, ◌<◌, List, [], ◌∷◌, ◌++◌, length, take, slice_index_or, Option, Some, None, MatchOption, Result, Ok, Err}
use Rattle.std.specs.Option.{option_or}

-- The fault of the first item that has one, where the items `before` stand in front of them all. Whether an item has one
-- may depend on the items before it.
unfoldable pub first_fault_behind : {X F : Type 0} → (List X → X → Option F) → List X → List X → Option F
first_fault_behind fault before [] = None
first_fault_behind fault before (x ∷ xs) = option_or (fault before x) (first_fault_behind fault (before ++ x ∷ []) xs)

-- the fault of the first item that has one
abbrev pub first_fault : {X F : Type 0} → (List X → X → Option F) → List X → Option F
first_fault fault xs = first_fault_behind fault [] xs

-- no item has a fault
abbrev pub HasNoFault : {X F : Type 0} → (List X → X → Option F) → List X → Type 0
HasNoFault {X} fault xs = (before after : List X) (x : X) → xs ≡ before ++ x ∷ after → fault before x ≡ None

-- some item has this fault, and none before it has one
abbrev pub IsFirstFault : {X F : Type 0} → (List X → X → Option F) → List X → F → Type 0
IsFirstFault {X} fault xs f =
    (before after : List X) × (x : X) × (xs ≡ before ++ x ∷ after) × (fault before x ≡ Some f) × HasNoFault fault before

-- what is found of the items in their order
abbrev pub IsFirst : {X F : Type 0} → (List X → X → Option F) → List X → Option F → Type 0
IsFirst fault xs found = MatchOption found (HasNoFault fault xs) (IsFirstFault fault xs)

-- ---- items that give parts

-- Each item gives its part. What it gives may depend on the items before it.
abbrev pub AllGive : {X Y F : Type 0} → (List X → X → Result Y F → Type 0) → List X → List Y → Type 0
AllGive {X} {Y} says xs ys =
    (length ys ≡ length xs) × ((i : ℕ) (x : X) (y : Y) → i < length xs → says (take i xs) (slice_index_or xs i x) (Ok (slice_index_or ys i y)))

-- The parts of all items; or the fault of one, where each before it gives its part.
abbrev pub InTurn : {X Y F : Type 0} → (List X → X → Result Y F → Type 0) → List X → Result (List Y) F → Type 0
InTurn {X} {Y} {F} says xs (Ok ys) = AllGive says xs ys
InTurn {X} {Y} {F} says xs (Err fault) =
    (i : ℕ) × (x : X) × (i < length xs) × says (take i xs) (slice_index_or xs i x) (Err fault) × (ys : List Y) × AllGive says (take i xs) ys
