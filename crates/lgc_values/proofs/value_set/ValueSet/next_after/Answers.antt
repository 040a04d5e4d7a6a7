use Rattle.lgc_values.proofs.ValueLaws.{next_after_law}
use Rattle.lgc_values.proofs.value_set.ValueSet.next_after.Goals as goal

pub returns : goal.returns
returns g c = next_after_law g.row.N c.self.inside.mask c.args.v c.args.self c.least_bit.result c.self.view_is c.least_bit.ensures
