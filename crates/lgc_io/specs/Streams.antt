-- Files and sinks that tell no contents, and what a sink over a writer of std does to the bytes that the writer is known to hold.
use Rattle.std.specs.Prelude.{◌≡◌, ℕ, List, ◌++◌, Option, None}
use Rattle.std.specs.Io.KnownBytes.{Appends}
use Rattle.lgc_io.specs.Files.{FilesState}
use Rattle.lgc_io.specs.Sinks.{SinkState}

-- files that tell no contents, with this count of faults and this name of the last one
abbrev pub untold_files : ℕ → List ℕ → FilesState
untold_files faults last = record { told = None; faults = faults; last = last }

-- a sink that tells no contents, with this count of faults
abbrev pub untold_sink : ℕ → SinkState
untold_sink faults = record { written = None; faults = faults }

-- the writer took the first of the bytes, and left the rest
pub record WritesPart (old new : Option (List ℕ)) (bytes : List ℕ) : Type 0 where
  pub taken : List ℕ
  pub rest : List ℕ
  pub parts : bytes ≡ taken ++ rest
  pub appended : Appends old new taken
