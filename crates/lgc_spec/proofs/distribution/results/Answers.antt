use Rattle.std.proofs.Common.{◌<◌, ◌+◌, ◌-◌, ◌^◌, length, refl, arith}
use Rattle.lgc_spec.proofs.DistributionSteps.{set_missing, set_told}
use Rattle.lgc_spec.proofs.distribution.results.Goals as goal

pub returns-in-None : goal.returns-in-None
returns-in-None c =
    let within : c.loop-index.index < 2 ^ length c.args.names.now - 1 = omega (arith, c.set_count-index-end.ensures) in
    set_missing c.args.bytes.now c.args.names.now c.args.told.now c.args.rows.now c.requires.told c.args.close c.loop-index.index (c.loop-index.index + 1) _ c.loop-index.invariant.none within refl c.in-None.ensures c.in_ok-member_names-in-None.ensures

pub loop-index-preserved : goal.loop-index-preserved
loop-index-preserved c =
    let within : c.loop-index.index < 2 ^ length c.args.names.now - 1 = omega (arith, c.set_count-index-end.ensures) in
    let next = set_told c.args.bytes.now c.args.names.now c.args.told.now c.args.rows.now c.requires.told c.loop-index.index (c.loop-index.index + 1) c.in-Some.row c.loop-index.table c.push.new.self c.loop-index.invariant.none c.loop-index.invariant.so_far within refl c.in-Some.ensures c.in_ok-push-in-Some.ensures.ok in
    record { none = next.0; so_far = next.1 }
