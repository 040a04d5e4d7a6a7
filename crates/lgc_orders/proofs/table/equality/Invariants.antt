use Rattle.lgc_orders.proofs.TableLaws.{IsEqualitySoFar}
use Rattle.lgc_orders.proofs.table.equality.Given as goal

abbrev pub invariant-loop-place : goal.invariant-loop-place
invariant-loop-place l = IsEqualitySoFar l.n l.table.items l.place
