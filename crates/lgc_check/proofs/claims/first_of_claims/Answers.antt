-- The first claim of which something is found.
use Rattle.std.proofs.Common.{◌+◌, map, subst, arith}
use Rattle.std.proofs.lemmas.List.{length-map}
use Rattle.lgc_report.specs.Reports.{plain_claim}
use Rattle.lgc_check.specs.Causes.{found_of_claim}
use Rattle.lgc_check.proofs.Faults.{mapped_stands, one_more, all_right, first_here}
use Rattle.lgc_check.proofs.claims.first_of_claims.Goals as goal

pub returns-in-Some : goal.returns-in-Some
returns-in-Some g c =
    let claims = c.args.claims.now in
    let i = c.loop-i.i in
    let claim = plain_claim {size = g.row.N} c.index-claims-i.result in
    let found = found_of_claim c.args.m.now c.args.lines.now in
    let stands = mapped_stands (plain_claim {size = g.row.N}) claims i c.index-claims-i.result c.loop-i-test.true c.index-claims-i.is in
    first_here found (map plain_claim claims) i claim c.in-Some.cause stands (subst (found (i + 1) claim) c.in-Some.is c.in_ok-cause.ensures) c.loop-i.invariant

pub loop-i-preserved : goal.loop-i-preserved
loop-i-preserved g c =
    let claims = c.args.claims.now in
    let i = c.loop-i.i in
    let claim = plain_claim {size = g.row.N} c.index-claims-i.result in
    let found = found_of_claim c.args.m.now c.args.lines.now in
    let stands = mapped_stands (plain_claim {size = g.row.N}) claims i c.index-claims-i.result c.loop-i-test.true c.index-claims-i.is in
    one_more found (map plain_claim claims) i claim stands (subst (found (i + 1) claim) c.in_default.is c.in_ok-cause.ensures) c.loop-i.invariant

pub returns : goal.returns
returns g c =
    let claims = c.args.claims.now in
    all_right (found_of_claim c.args.m.now c.args.lines.now) (map plain_claim claims) c.loop-i.i (omega (arith, c.loop-i-test.false, length-map claims (plain_claim {size = g.row.N}))) c.loop-i.invariant
