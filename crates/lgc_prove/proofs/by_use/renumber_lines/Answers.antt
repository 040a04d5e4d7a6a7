-- The line at the place that is walked to gets its new number.
use Rattle.std.proofs.Common.{◌<◌, length, refl, arith, ap}
use Rattle.std.specs.Prelude.{Contains}
use Rattle.lgc_prove.specs.Uses.{number_in}
use Rattle.lgc_prove.proofs.ByUseLaws.{cited_walked, renumbered_one}
use Rattle.lgc_prove.proofs.by_use.renumber_lines.Goals as goal

pub renumber-requires : goal.renumber-requires
renumber-requires g c =
    let uses = c.args.uses.now.keys in
    let lt : c.loop-i.i < length c.args.lines = omega (arith, c.loop-i-test.true, c.len-i-end.ensures, c.into_vec-lines.result.ok.0, ap length c.into_vec-lines.ensures) in
    (omega arith, (c.requires.few, cited_walked (Contains uses) (number_in uses) c.args.lines c.loop-i.lines.items c.loop-i.i c.index_mut.result.now c.requires.cited lt c.loop-i.invariant c.index_mut.ensures.value))

pub loop-i-preserved : goal.loop-i-preserved
loop-i-preserved g c =
    let uses = c.args.uses.now.keys in
    let lt : c.loop-i.i < length c.args.lines = omega (arith, c.loop-i-test.true, c.len-i-end.ensures, c.into_vec-lines.result.ok.0, ap length c.into_vec-lines.ensures) in
    renumbered_one (number_in uses) c.args.lines c.loop-i.lines.items _ c.loop-i.i c.index_mut.result.now c.renumber.new.line lt c.loop-i.invariant c.index_mut.ensures.value c.renumber.ensures refl
