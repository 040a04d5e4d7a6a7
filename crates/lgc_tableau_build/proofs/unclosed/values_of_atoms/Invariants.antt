-- The atoms so far are listed.
use Rattle.std.proofs.Common.{map}
use Rattle.lgc_syntax.specs.Values.{listed, value}
use Rattle.lgc_tableau_build.specs.Building.{ListsAtomsBelow}
use Rattle.lgc_tableau_build.proofs.unclosed.values_of_atoms.Given as goal

abbrev pub invariant-loop-k : goal.invariant-loop-k
invariant-loop-k g l = ListsAtomsBelow l.k l.formulas (map (value l.m (listed l.valuation)) l.formulas) l.values
