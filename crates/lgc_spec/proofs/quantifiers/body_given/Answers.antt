use Rattle.lgc_spec.proofs.quantifiers.body_given.Goals as goal

pub returns-in-Bound : goal.returns-in-Bound
returns-in-Bound c = λ orderings kept. rw c.in-Bound.is (c.set_bound_given.ensures orderings kept)
