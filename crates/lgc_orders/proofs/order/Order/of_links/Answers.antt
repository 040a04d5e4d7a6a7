use Rattle.std.proofs.Common.{IsTrue, subst}
use Rattle.lgc_orders.specs.Order.{cell, IsAntisymmetric}
use Rattle.lgc_orders.proofs.TableLaws.{IsOrder-of_links}
use Rattle.lgc_orders.proofs.order.Order.of_links.Goals as goal

pub invariant_of-result : goal.invariant_of-result
invariant_of-result c = IsOrder-of_links c.args.n c.args.links.now c.in-Ok.table.items c.in-Ok.ensures (subst (λ table. IsAntisymmetric c.args.n (λ a b. IsTrue (cell table c.args.n a b))) c.deref.ensures.value c.in-None.ensures)
