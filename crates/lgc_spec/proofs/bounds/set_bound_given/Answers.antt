use Rattle.lgc_spec.proofs.SetBounds.{set_bound_told}
use Rattle.lgc_spec.proofs.bounds.set_bound_given.Goals as goal

pub returns : goal.returns
returns c = λ orderings kept.
    set_bound_told c.args.bytes.now c.args.names.now orderings c.args.at c.args.lower c.args.ordering.now c.in_ok-pairs.pairs _ (rw c.items.ensures at c.in_ok-folds.ensures) (c.in_ok-pairs.ensures.gives orderings kept)
