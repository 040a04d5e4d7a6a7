use Rattle.lgc_spec.proofs.operators.body_given.Goals as goal

pub returns-in-Bound : goal.returns-in-Bound
returns-in-Bound c = λ orderings kept. rw c.in-Bound.is (c.bound_given.ensures.gives orderings kept)
