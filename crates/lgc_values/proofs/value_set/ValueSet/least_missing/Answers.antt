use Rattle.lgc_values.proofs.ValueLaws.{least_missing_law}
use Rattle.lgc_values.proofs.value_set.ValueSet.least_missing.Goals as goal

pub returns : goal.returns
returns g c = least_missing_law g.row.N c.self.inside.mask c.args.self c.least_bit.result c.self.view_is c.self.invariant.0.high c.least_bit.ensures
