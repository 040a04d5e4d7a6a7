use Rattle.std.proofs.Common.{refl}
use Rattle.lgc_spec.proofs.OperatorLaws.{name_fault-is}
use Rattle.lgc_spec.proofs.operators.check_name.Goals as goal

pub returns-then-has_operator : goal.returns-then-has_operator
returns-then-has_operator c =
    rw (c.fault_at-then-has_operator.ensures, name_fault-is c.args.bytes.now c.args.operators.now c.args.name.now _ _ _ c.if-operators-ge-MOST_OPERATORS.false c.text_of.ensures c.has_operator.ensures c.if-has_operator.true) refl

pub returns : goal.returns
returns c = name_fault-is c.args.bytes.now c.args.operators.now c.args.name.now _ _ _ c.if-operators-ge-MOST_OPERATORS.false c.text_of.ensures c.has_operator.ensures c.if-has_operator.false
