-- The lines of the places so far.
use Rattle.std.proofs.Common.{◌≡◌, map, take}
use Rattle.std.specs.Prelude.{slice_index}
use Rattle.lgc_proofs.specs.Writing.{cited_line}
use Rattle.lgc_proofs.proofs.writing.cited_lines.Given as goal

abbrev pub invariant-loop-place : goal.invariant-loop-place
invariant-loop-place l = l.cited ≡ map (cited_line (slice_index l.positions)) (take l.place-index l.places)
