-- What reading a file by its name means.
use Rattle.std.specs.Prelude.{◌≡◌, ℕ, ◌<◌, ◌≤◌, List, ◌++◌, length, Option, Some, IfSome, nat_eq, find}
use Rattle.std.specs.Option.{option_map}
use Rattle.std.specs.Cmp.Lexicographic.{pointwise}
use Rattle.lgc_io.specs.Faults.{Rose}

-- The names and bytes of all files, where they are told; the count of faults; the name of the last fault, empty before the first.
pub record FilesState : Type 0 where
  pub told : Option (List (List ℕ × List ℕ))
  pub faults : ℕ
  pub last : List ℕ

-- the bytes of the first file of that name
abbrev pub file_at : List (List ℕ × List ℕ) → List ℕ → Option (List ℕ)
file_at files name = option_map (λ f. f.1) (find (λ f. pointwise nat_eq f.0 name) files)

-- where the files are told, the file of that name has these bytes
abbrev pub Holds : FilesState → List ℕ → List ℕ → Type 0
Holds files name bytes = IfSome files.told (λ told. file_at told name ≡ Some bytes)

-- all bytes of the file were appended, and there are at most `limit`
pub record GainsFile (files : FilesState) (name : List ℕ) (limit : ℕ) (old new : List ℕ) : Type 0 where
  pub bytes : List ℕ
  pub held : Holds files name bytes
  pub short : length bytes ≤ limit
  pub gained : new ≡ old ++ bytes

-- the file has more than `limit` bytes
pub record IsLonger (files : FilesState) (name : List ℕ) (limit : ℕ) : Type 0 where
  pub bytes : List ℕ
  pub held : Holds files name bytes
  pub long : limit < length bytes

-- the read of the file of that name failed: a fault was counted, and it is the last one
pub record FailsAt (old new : FilesState) (name : List ℕ) : Type 0 where
  pub rose : Rose old.faults new.faults
  pub last : new.last ≡ name
