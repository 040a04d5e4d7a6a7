-- A machine tells no contents, so that a file longer than a limit is one of any bytes.
use Rattle.std.proofs.Common.{◌≡◌, ℕ, ◌+◌, List, arith, None}
use Rattle.std.specs.Prelude.{replicate}
use Rattle.std.proofs.lemmas.Grind.{common_steps}
use Rattle.lgc_io.specs.Files.{FilesState, IsLonger}

pub longer_unseen : (files : FilesState) (name : List ℕ) (limit : ℕ) → files.told ≡ None → IsLonger files name limit
longer_unseen files name limit unseen = record {
  bytes = replicate (limit + 1) 0;
  held = rw unseen tt;
  long = grind (arith, common_steps);
}
