-- It is left to the cases that are left.
use Rattle.std.proofs.Common.{drop}
use Rattle.std.specs.Prelude.{◌↔◌}
use Rattle.lgc_tableau.specs.ClosedTableaux.{AreClosed}
use Rattle.lgc_tableau_check.specs.Branches.{items_of}
use Rattle.lgc_tableau_check.proofs.closed.+is_closed_on.Given as goal

abbrev pub invariant-are_closed-loop-case : goal.invariant-are_closed-loop-case
invariant-are_closed-loop-case g l = AreClosed l.m (items_of l.branch) (drop l.case-index l.cases) ↔ AreClosed l.m (items_of l.branch) l.cases
