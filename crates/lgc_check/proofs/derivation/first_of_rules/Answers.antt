-- The first rule of which something is found.
use Rattle.std.proofs.Common.{map, arith}
use Rattle.std.proofs.lemmas.List.{length-map}
use Rattle.lgc_report.specs.Reports.{plain_numbered}
use Rattle.lgc_check.specs.Causes.{found_of_rule}
use Rattle.lgc_check.proofs.Faults.{mapped_stands, one_more, all_right, first_here}
use Rattle.lgc_check.proofs.derivation.first_of_rules.Goals as goal

pub returns-in-Some : goal.returns-in-Some
returns-in-Some g c =
    let rules = c.args.rules.now in
    let numbered = c.index-rules-i.result in
    let stands = mapped_stands (plain_numbered {size = g.row.N}) rules c.loop-i.i numbered c.loop-i-test.true c.index-rules-i.is in
    first_here (found_of_rule c.args.m.now) (map plain_numbered rules) c.loop-i.i (plain_numbered numbered) c.in-Some.cause stands c.in-Some.ensures c.loop-i.invariant

pub loop-i-preserved : goal.loop-i-preserved
loop-i-preserved g c =
    let rules = c.args.rules.now in
    let numbered = c.index-rules-i.result in
    let stands = mapped_stands (plain_numbered {size = g.row.N}) rules c.loop-i.i numbered c.loop-i-test.true c.index-rules-i.is in
    one_more (found_of_rule c.args.m.now) (map plain_numbered rules) c.loop-i.i (plain_numbered numbered) stands c.in_default.ensures c.loop-i.invariant

pub returns : goal.returns
returns g c =
    let rules = c.args.rules.now in
    all_right (found_of_rule c.args.m.now) (map plain_numbered rules) c.loop-i.i (omega (arith, c.loop-i-test.false, length-map rules (plain_numbered {size = g.row.N}))) c.loop-i.invariant
