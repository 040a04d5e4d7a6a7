-- No formula so far carries all values.
use Rattle.std.proofs.Common.{◌≡◌, drop}
use Rattle.lgc_packed.specs.Packed.{is_full}
use Rattle.lgc_packed.proofs.inclusion.full_at.Given as goal

abbrev pub invariant-loop-i : goal.invariant-loop-i
invariant-loop-i g l = is_full g.row.N l.pairs ≡ is_full g.row.N (drop l.i l.pairs)
