-- The pairs that are left are still to be added.
use Rattle.std.proofs.Common.{◌≡◌, drop}
use Rattle.std.specs.List.{zip}
use Rattle.lgc_packed.specs.Packed.{added_all}
use Rattle.lgc_packed.proofs.clauses.with_clause.Given as goal

abbrev pub invariant-loop-i : goal.invariant-loop-i
invariant-loop-i g l = added_all g.row.N (zip l.arguments l.sets) l.packed ≡ added_all g.row.N (zip (drop l.i l.arguments) (drop l.i l.sets)) l.premise
