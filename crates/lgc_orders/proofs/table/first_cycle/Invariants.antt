use Rattle.lgc_orders.proofs.TableLaws.{HasNoneBefore}
use Rattle.lgc_orders.proofs.table.first_cycle.Given as goal

abbrev pub invariant-loop-place : goal.invariant-loop-place
invariant-loop-place l = HasNoneBefore l.n l.table l.place
