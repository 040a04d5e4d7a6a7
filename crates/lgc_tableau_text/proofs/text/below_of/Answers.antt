-- The formulas of the node are among those of the case.
use Rattle.lgc_tableau_text.proofs.TableauLaws.{shallow_below}
use Rattle.lgc_tableau_text.proofs.text.below_of.Goals as goal

pub returns-clause-shallow : goal.returns-clause-shallow
returns-clause-shallow g c = shallow_below c.args.case.now c.get.result.now c.get.ensures c.requires
