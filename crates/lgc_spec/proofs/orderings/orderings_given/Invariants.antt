use Rattle.std.proofs.Common.{List, All, length, map, take, filter_map}
use Rattle.lgc_spec.specs.InOrder.{AllGive}
use Rattle.lgc_spec.specs.KeptOrders.{AreKept}
use Rattle.lgc_spec.specs.Orderings.{Ordered, ordering_in, OrderingGives}
use Rattle.lgc_spec.specs.Words.{LiesIn, text_of}
use Rattle.lgc_spec.proofs.TakenNames.{AreTaken}
use Rattle.lgc_spec.proofs.orderings.orderings_given.Given as goal

abbrev pub invariant-loop-statement : goal.invariant-loop-statement
invariant-loop-statement l = record {
  told : (ordered : List Ordered) × AreKept l.bytes (length l.names) l.orders.items ordered × AllGive (OrderingGives l.bytes l.names) (filter_map ordering_in (take l.statement-index l.statements)) ordered;
  words : All (λ o. LiesIn (length l.bytes) o.name) l.orders.items;
  taken : AreTaken l.taken (map (λ o. text_of l.bytes o.0) (filter_map ordering_in (take l.statement-index l.statements)));
}
