-- A formula that isn't found from a place on is looked for before it.
use Rattle.lgc_steps.proofs.Places.{place_before}
use Rattle.lgc_steps.proofs.near.place_from.Goals as goal

pub returns-in-None : goal.returns-in-None
returns-in-None g c = place_before c.args.items.now c.args.f.now c.args.from c.place_of-in-None.result c.requires c.in-None.ensures c.place_of-in-None.ensures
