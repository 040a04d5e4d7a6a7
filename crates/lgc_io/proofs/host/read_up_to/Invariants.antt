use Rattle.std.proofs.Common.{◌≡◌, ℕ, ◌+◌, List, ◌++◌, length}
use Rattle.std.specs.Io.KnownBytes.{Consumes}
use Rattle.lgc_io.proofs.host.read_up_to.Given as goal

-- what was read so far stands at the end, and the reader lost it
abbrev pub invariant-reads : goal.invariant-reads
invariant-reads g l = (bytes : List ℕ) × (length bytes + l.left ≡ l.limit) × (l.into.items ≡ l.initial.into.items ++ bytes) × Consumes (g.F.Read.remaining l.initial.file) (g.F.Read.remaining l.file) bytes

abbrev pub decreases-reads : goal.decreases-reads
decreases-reads g l = l.left
