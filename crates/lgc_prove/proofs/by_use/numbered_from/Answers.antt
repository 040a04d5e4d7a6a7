-- One more rule is copied.
use Rattle.std.proofs.Common.{refl}
use Rattle.lgc_report.specs.Reports.{plain_numbered}
use Rattle.lgc_prove.proofs.ByUseLaws.{numbered_more}
use Rattle.lgc_prove.proofs.by_use.numbered_from.Goals as goal

pub loop-position-preserved : goal.loop-position-preserved
loop-position-preserved g c =
    let i = c.loop-position.position-index in
    numbered_more (plain_numbered {size = g.row.N}) c.args.rules.now c.args.uses.now c.loop-position.used c.push.new.self _ i c.len.result c.in_ok-rule.rule c.index-rules-position.result c.loop-position.invariant c.loop-position-test.true
    (c.requires.positions i 0 c.loop-position-test.true) c.index-rules-position.is c.in_ok-rule.ensures c.len.ensures refl c.in_ok-push.ensures.ok
