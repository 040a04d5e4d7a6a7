use Rattle.lgc_spec.proofs.KeptOrderLaws.{bound_kept, bound_unknown}
use Rattle.lgc_spec.proofs.bounds.bound_given.Goals as goal

pub returns-in-Some-clause-gives : goal.returns-in-Some-clause-gives
returns-in-Some-clause-gives c =
    bound_kept c.args.bytes.now c.args.names.now c.args.orders.now c.args.at c.args.lower c.args.ordering.now c.text_of.result.now c.in-Some.place c.index-orders-place.result c.args.arity c.bounds_given.result c.if-arity-ne2.false c.text_of.ensures c.in-Some.ensures.place c.in-Some.ensures.below c.bounds_given.ensures.bounds

pub returns-in-None-clause-gives : goal.returns-in-None-clause-gives
returns-in-None-clause-gives c =
    bound_unknown c.args.bytes.now c.args.names.now c.args.orders.now c.args.at c.args.lower c.args.ordering.now c.text_of.result.now c.args.arity c.fault_at-in-None.result c.if-arity-ne2.false c.text_of.ensures c.in-None.ensures.place c.fault_at-in-None.ensures
