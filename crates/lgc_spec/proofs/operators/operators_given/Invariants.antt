use Rattle.std.proofs.Common.{◌≡◌, List, length, map, take}
use Rattle.std.specs.Prelude.{filter_map}
use Rattle.lgc_spec.specs.InOrder.{AllGive}
use Rattle.lgc_spec.specs.Words.{text_of}
use Rattle.lgc_spec.specs.Orderings.{Ordered}
use Rattle.lgc_spec.specs.KeptOrders.{AreKept}
use Rattle.lgc_spec.specs.Operators.{operator_in, OperatorGives}
use Rattle.lgc_spec.proofs.operators.operators_given.Given as goal

abbrev pub invariant-loop-statement : goal.invariant-loop-statement
invariant-loop-statement l = record {
  named : map (λ o. o.name) l.operators ≡ map (λ o. text_of l.bytes o.0) (filter_map operator_in (take l.statement-index l.statements));
  gives : (orderings : List Ordered) → AreKept l.bytes (length l.names) l.orders orderings → AllGive (OperatorGives l.bytes l.names orderings) (filter_map operator_in (take l.statement-index l.statements)) l.operators;
}
