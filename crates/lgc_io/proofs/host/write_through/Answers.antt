use Rattle.std.proofs.Common.{◌++◌, take}
use Rattle.lgc_io.proofs.Known.{appended_both, split_later}
use Rattle.lgc_io.proofs.host.write_through.Goals as goal

pub loop-rest-preserved : goal.loop-rest-preserved
loop-rest-preserved g c =
    let (taken, split, appended) = c.loop-rest.invariant in
    let rest = c.loop-rest.rest.now in
    let count = c.in-Ok.count in
    (taken ++ take count rest, split_later c.args.bytes.now taken rest count split, appended_both _ _ _ _ _ appended c.in-Ok.ensures.bytes)
