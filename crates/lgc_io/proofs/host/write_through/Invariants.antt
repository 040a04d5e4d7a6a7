use Rattle.std.proofs.Common.{◌≡◌, ◌++◌, List, ℕ, length}
use Rattle.std.specs.Io.KnownBytes.{Appends}
use Rattle.lgc_io.proofs.host.write_through.Given as goal

-- what is gone from the rest was written
abbrev pub invariant-loop-rest : goal.invariant-loop-rest
invariant-loop-rest g l = (taken : List ℕ) × (l.bytes ≡ taken ++ l.rest) × Appends (g.W.Write.contents l.initial.inner) (g.W.Write.contents l.inner) taken

abbrev pub decreases-loop-rest : goal.decreases-loop-rest
decreases-loop-rest g l = length l.rest
