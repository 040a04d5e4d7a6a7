-- Files and sinks in memory, and which of their calls fail.
use Rattle.std.specs.Prelude.{◌≡◌, ℕ, ◌+◌, ◌-◌, ◌^◌, List, length, min, ◌==◌, ◌⊎◌, if◌then◌else◌, nat_le, Option, Some, None, find, Result, Ok, Err, IsErr}
use Rattle.std.specs.List.{list_any}
use Rattle.std.specs.Option.{option_map}
use Rattle.lgc_io.specs.declared.files.Reading.{Reading}
use Rattle.lgc_io.specs.declared.files.Reading.TheVariants.{Whole, TooLong}
use Rattle.lgc_io.specs.declared.files.FileFault.{FileFault}
use Rattle.lgc_io.specs.declared.files.FileFault.TheVariants.{Memory}
use Rattle.lgc_io.specs.Files.{FilesState, file_at}
use Rattle.lgc_io.specs.Sinks.{SinkState}

-- files in memory: the numbers of the calls that are to fail, and how many calls there were
pub record MemoryFilesState : Type 0 where
  pub files : List (List ℕ × List ℕ)
  pub failing : List ℕ
  pub calls : ℕ
  pub faults : ℕ
  pub last : List ℕ

-- files in memory as any files
abbrev pub files_state : MemoryFilesState → FilesState
files_state files = record { told = Some files.files; faults = files.faults; last = files.last }

-- a sink in memory: which calls are to fail, each with the number of bytes that it takes first, and how many calls there were
pub record MemorySinkState : Type 0 where
  pub bytes : List ℕ
  pub failing : List (ℕ × ℕ)
  pub calls : ℕ
  pub faults : ℕ

-- a sink in memory as any sink
abbrev pub sink_state : MemorySinkState → SinkState
sink_state sink = record { written = Some sink.bytes; faults = sink.faults }

-- a count after one more; it stands still at the greatest number of 64 bits
abbrev pub one_more : ℕ → ℕ
one_more count = min (count + 1) (2 ^ 64 - 1)

-- how many bytes the call of this number takes before it fails, if it is to fail: the first entry for it counts
abbrev pub room_at : List (ℕ × ℕ) → ℕ → Option ℕ
room_at failing call = option_map (λ entry. entry.1) (find (λ entry. entry.0 == call) failing)

-- how many bytes the next call with bytes takes before it fails, if it is to fail
abbrev pub next_room : MemorySinkState → Option ℕ
next_room sink = room_at sink.failing (one_more sink.calls)

-- the bytes that the next read of a file of that name finds; None where that call is to fail, or where there is no such file
abbrev pub found_at : MemoryFilesState → List ℕ → Option (List ℕ)
found_at files name = if list_any (λ call. call == one_more files.calls) files.failing then None else file_at files.files name

-- What a read answers about the bytes that it finds. Memory can run out at each.
abbrev pub Answers : Option (List ℕ) → ℕ → Result Reading FileFault → Type 0
Answers None limit result = IsErr result
Answers (Some bytes) limit result = (result ≡ Ok (if nat_le (length bytes) limit then Whole else TooLong)) ⊎ (result ≡ Err Memory)
