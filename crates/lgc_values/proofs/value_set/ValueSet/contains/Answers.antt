use Rattle.lgc_values.proofs.ValueLaws.{contains_law}
use Rattle.lgc_values.proofs.value_set.ValueSet.contains.Goals as goal

pub returns : goal.returns
returns g c = contains_law g.row.N c.self.inside.mask c.args.v c.args.self c.self.view_is c.requires
