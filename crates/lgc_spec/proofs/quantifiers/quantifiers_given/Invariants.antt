use Rattle.std.proofs.Common.{◌≡◌, List, length, map, take}
use Rattle.std.specs.Prelude.{filter_map}
use Rattle.lgc_spec.specs.InOrder.{AllGive}
use Rattle.lgc_spec.specs.Words.{text_of}
use Rattle.lgc_spec.specs.Orderings.{Ordered}
use Rattle.lgc_spec.specs.KeptOrders.{AreKept}
use Rattle.lgc_spec.specs.Quantifiers.{quantifier_in, QuantifierGives}
use Rattle.lgc_spec.proofs.quantifiers.quantifiers_given.Given as goal

abbrev pub invariant-loop-statement : goal.invariant-loop-statement
invariant-loop-statement l = record {
  named : map (λ q. q.name) l.quantifiers ≡ map (λ q. text_of l.bytes q.0) (filter_map quantifier_in (take l.statement-index l.statements));
  gives : (orderings : List Ordered) → AreKept l.bytes (length l.names) l.orders orderings → AllGive (QuantifierGives l.bytes l.names orderings l.operators) (filter_map quantifier_in (take l.statement-index l.statements)) l.quantifiers;
}
