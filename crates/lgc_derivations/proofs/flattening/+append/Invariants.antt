-- The derivations before have their lines, and what stood there before stays.
use Rattle.std.proofs.Common.{◌≡◌, take, length}
use Rattle.lgc_derivations.specs.Flattened.{AreFlattened}
use Rattle.lgc_derivations.proofs.flattening.+append.Given as goal

abbrev pub invariant-append_all-loop-d : goal.invariant-append_all-loop-d
invariant-append_all-loop-d g l = record {
  flattened : AreFlattened g.row.N (take l.d-index l.derivations) l.fn.lines l.lines l.cited;
  kept : take (length l.fn.lines) l.lines ≡ l.fn.lines;
}
