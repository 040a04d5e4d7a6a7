-- What stands at a position.
use Rattle.lgc_steps.proofs.Parts.{rule_there}
use Rattle.lgc_steps.proofs.step.rule_at.Goals as goal

pub returns : goal.returns
returns g c = rule_there c.args.rules.now c.args.position c.index-rules-position.result c.if-position-eq0.false c.if-position-rules.false c.index-rules-position.is
