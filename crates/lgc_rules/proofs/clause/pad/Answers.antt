use Rattle.std.proofs.Common.{◌<◌, length, arith, ◌∙◌}
use Rattle.lgc_tokens.proofs.Stops.{when_ok}
use Rattle.lgc_rules.proofs.Padding.{pad_more}
use Rattle.lgc_rules.proofs.clause.pad.Goals as goal

pub loop-sets-preserved : goal.loop-sets-preserved
loop-sets-preserved g c =
    let pushed = when_ok _ _ c.in_ok-push.was c.push.ensures.ok in
    let short : length c.loop-sets.sets < c.args.width = omega arith in
    rw (pushed, c.empty_set.ensures) (pad_more c.args.width c.loop-sets.sets short ∙ c.loop-sets.invariant)
