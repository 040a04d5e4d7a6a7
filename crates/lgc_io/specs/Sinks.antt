-- What writing to a sink means.
use Rattle.std.specs.Prelude.{◌≡◌, ℕ, ◌≤◌, List, ◌++◌, length, take, Option}
use Rattle.std.specs.Option.{option_map}
use Rattle.lgc_io.specs.Faults.{Rose}

-- the bytes written so far, where they are told, and the count of faults
pub record SinkState : Type 0 where
  pub written : Option (List ℕ)
  pub faults : ℕ

-- these bytes were appended
abbrev pub Appends : SinkState → SinkState → List ℕ → Type 0
Appends old new bytes = new.written ≡ option_map (λ written. written ++ bytes) old.written

-- all of the bytes were appended, without a fault
pub record Takes (old new : SinkState) (bytes : List ℕ) : Type 0 where
  pub appended : Appends old new bytes
  pub faults : new.faults ≡ old.faults

-- the first of the bytes were appended, and a fault was counted
pub record TakesPart (old new : SinkState) (bytes : List ℕ) : Type 0 where
  pub count : ℕ
  pub within : count ≤ length bytes
  pub appended : Appends old new (take count bytes)
  pub rose : Rose old.faults new.faults
