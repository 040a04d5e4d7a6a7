-- What the reader of a mapping of sets keeps of a row.
use Rattle.std.specs.Prelude.{◌≡◌, ℕ, ◌^◌, ◌<◌, List, length}
use Rattle.lgc_values.specs.Values.{members_of}
use Rattle.lgc_parser.specs.declared.tree.Row.{Row}
use Rattle.lgc_spec.specs.declared.distribution.Told.{Told}
use Rattle.lgc_spec.specs.Words.{value_of}
use Rattle.lgc_spec.specs.Distributions.{set_of}

-- the mask of the row's set, and its result
pub record Tells (bytes : List ℕ) (names : List (List ℕ)) (told : Told) (row : Row) : Type 0 where
  pub set : members_of (length names) told.mask ≡ set_of bytes names row
  pub below : told.mask < 2 ^ length names
  pub value : told.value ≡ value_of bytes names row.value
