-- What is found of an item that is asked for several parts, in order: nothing where each of them holds, and else the mark of the first one
-- that doesn't.
use Rattle.std.specs.Prelude.{◌≡◌, ◌⊎◌, Option, Some, None}

-- what may be found, by marks of a type T
abbrev pub Finding : Type 0 → Type 1
Finding T = Option T → Type 0

-- nothing is asked
abbrev pub nothing : {T : Type 0} → Finding T
nothing None = Unit {0}
nothing (Some mark) = ⊥

-- a part is asked, and then others; where the part doesn't hold, its mark is found
abbrev pub asks : {T : Type 0} → Type 0 → T → Finding T → Finding T
asks Part mark others None = Part × others None
asks Part mark others (Some found) = ((Part → ⊥) × (found ≡ mark)) ⊎ (Part × others (Some found))

-- what is found by one account, whose marks are told by others, and else what is found by the next
abbrev pub found_first : {S T : Type 0} → Finding S → (S → T) → Finding T → Finding T
found_first F told others None = F None × others None
found_first {S} F told others (Some found) = ((mark : S) × F (Some mark) × (found ≡ told mark)) ⊎ (F None × others (Some found))
