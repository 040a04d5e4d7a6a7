-- The first branch has the goal's items.
use Rattle.lgc_tableau_check.proofs.ClosedLaws.{at_goal}
use Rattle.lgc_tableau_check.proofs.closed.is_closed.Goals as goal

pub returns : goal.returns
returns g c = at_goal c.args.m.now c.args.goal.now _ c.args.t.now c.is_closed_on.result c.items.ensures.items c.is_closed_on.ensures
