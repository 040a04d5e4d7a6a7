-- The line that is cited stands before the one that cites it.
use Rattle.std.proofs.Common.{arith}
use Rattle.lgc_trees.proofs.UnfoldingLaws.{cited_earlier}
use Rattle.lgc_trees.proofs.unfolding.cited_line.Goals as goal

pub returns-clause-counted : goal.returns-clause-counted
returns-clause-counted g c = (cited_earlier c.args.lines.now c.requires.order c.args.position c.args.i c.premises_at.result.now c.index-premises_at-i.result c.premises_at.ensures c.requires.there).0

pub returns-clause-within : goal.returns-clause-within
returns-clause-within g c =
    let before = (cited_earlier c.args.lines.now c.requires.order c.args.position c.args.i c.premises_at.result.now c.index-premises_at-i.result c.premises_at.ensures c.requires.there).1 in
    let within = c.requires.within in
    omega (arith, before, within)

pub returns-clause-earlier : goal.returns-clause-earlier
returns-clause-earlier g c = (cited_earlier c.args.lines.now c.requires.order c.args.position c.args.i c.premises_at.result.now c.index-premises_at-i.result c.premises_at.ensures c.requires.there).1
