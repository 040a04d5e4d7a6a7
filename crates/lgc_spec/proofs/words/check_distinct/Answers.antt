use Rattle.std.proofs.Common.{refl}
use Rattle.lgc_spec.specs.InOrder.{first_fault_behind}
use Rattle.lgc_spec.proofs.WordLaws.{repeat_found, repeat_passes}
use Rattle.lgc_spec.proofs.words.check_distinct.Goals as goal

pub loop-i-init : goal.loop-i-init
unfolding first_fault_behind
loop-i-init c = refl

pub returns-then-is_said : goal.returns-then-is_said
returns-then-is_said c =
    rw c.fault_at.ensures (repeat_found c.args.number c.args.bytes.now c.args.words.now c.loop-i.i _ _ _ c.loop-i-test.true c.loop-i.invariant c.text_of.ensures c.is_said.ensures c.if-is_said.true)

pub loop-i-preserved : goal.loop-i-preserved
loop-i-preserved c =
    repeat_passes c.args.number c.args.bytes.now c.args.words.now c.loop-i.i _ _ _ c.loop-i-test.true c.loop-i.invariant c.text_of.ensures c.is_said.ensures c.if-is_said.false
