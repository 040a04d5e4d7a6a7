use Rattle.std.proofs.Common.{take}
use Rattle.lgc_orders.specs.Order.{TellsLinks}
use Rattle.lgc_orders.proofs.table.table_of.Given as goal

abbrev pub invariant-loop-low : goal.invariant-loop-low
invariant-loop-low l = TellsLinks l.n (take l.low-index l.links) l.table.items
