-- A value that can be taken away is one of the set's, and so below the bound.
use Rattle.std.proofs.Common.{◌≡◌, ◌<◌, true, subst, sym, arith}
use Rattle.lgc_values.specs.Values.{has}
use Rattle.lgc_clauses.proofs.irredundance.first_value_of_set.Goals as goal

pub returns : goal.returns
returns g c = λ v here.
    let member : has c.set_of-set.result v ≡ true = subst (λ s. has s v ≡ true) (sym c.set_of-set.ensures) here.value in
    let below : v < g.row.N = c.bound-v-end.ensures.below v member in
    c.loop-v.invariant v (omega arith) here
