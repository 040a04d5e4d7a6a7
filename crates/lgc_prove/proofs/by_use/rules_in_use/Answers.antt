-- One more line is walked over.
use Rattle.lgc_prove.proofs.ByUseLaws.{uses_more}
use Rattle.lgc_prove.proofs.by_use.rules_in_use.Goals as goal

pub loop-line-preserved : goal.loop-line-preserved
loop-line-preserved g c = uses_more c.args.lines.now c.loop-line.line-index c.line-item.result c.loop-line.uses.keys c.put_use.new.uses.keys c.loop-line-test.true c.line-item.is c.loop-line.invariant c.in_ok-put_use.ensures
