use Rattle.std.proofs.Common.{refl}
use Rattle.lgc_spec.specs.InOrder.{first_fault_behind}
use Rattle.lgc_spec.proofs.StatementLaws.{second_found, second_passes}
use Rattle.lgc_spec.proofs.statements.check_single.Goals as goal

pub loop-i-init : goal.loop-i-init
unfolding first_fault_behind
loop-i-init c = refl

pub returns-then-comes_again : goal.returns-then-comes_again
returns-then-comes_again c =
    rw c.fault_at.ensures (second_found c.args.statements.now c.loop-i.i _ _ _ c.loop-i-test.true c.index-statements-i.is c.loop-i.invariant c.comes_again.ensures c.if-comes_again.true c.keyword_of.ensures)

pub loop-i-preserved : goal.loop-i-preserved
loop-i-preserved c =
    second_passes c.args.statements.now c.loop-i.i _ _ c.loop-i-test.true c.index-statements-i.is c.loop-i.invariant c.comes_again.ensures c.if-comes_again.false
