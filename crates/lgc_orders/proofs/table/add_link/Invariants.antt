use Rattle.lgc_orders.proofs.TableLaws.{IsAdded}
use Rattle.lgc_orders.proofs.table.add_link.Given as goal

abbrev pub invariant-loop-place : goal.invariant-loop-place
invariant-loop-place l = IsAdded l.n l.low l.high l.initial.table l.table l.place
