use Rattle.std.proofs.Common.{ap, map, ◌∙◌, take}
use Rattle.std.specs.Prelude.{filter_map}
use Rattle.lgc_spec.specs.Operators.{operator_in, OperatorsGive}
use Rattle.lgc_spec.proofs.FaultLaws.{handed_on}
use Rattle.lgc_spec.proofs.InTurnLaws.{found_no_more}
use Rattle.lgc_spec.proofs.OperatorSteps.{no_operator, named_more, operators_more, operators_stop}
use Rattle.lgc_spec.proofs.operators.operators_given.Goals as goal
use Rattle.lgc_spec.proofs.operators.operators_given.Goals.{in-Operator+in_ok-operator+in_ok-push, in_default}

pub returns-in_err-operator : goal.returns-in_err-operator
returns-in_err-operator c = λ orderings kept.
    handed_on (OperatorsGive c.args.bytes.now c.args.names.now orderings c.args.statements.now) c.in_err-operator.field-0.0 c.from_residual.result c.from_residual.ensures.1
    (operators_stop c.args.bytes.now c.args.statements.now c.loop-statement.statement-index c.statement-item.result c.in-Operator.name c.in-Operator.arity c.in-Operator.body c.loop-statement.operators c.loop-statement-test.true c.statement-item.is c.in-Operator.is c.loop-statement.invariant.named c.args.names.now orderings c.in_err-operator.field-0.0 (c.loop-statement.invariant.gives orderings kept)
    (c.in_err-operator.ensures.gives orderings kept (filter_map operator_in (take c.loop-statement.statement-index c.args.statements.now)) (ap (λ os. map (λ o. o.name) os) c.items-earlier.ensures ∙ c.loop-statement.invariant.named)))

pub loop-statement-preserved : goal.loop-statement-preserved
loop-statement-preserved c =
    elim c.match-statement.branch [
      | in-Operator+in_ok-operator+in_ok-push w ↦ (record {
        named = rw (w.operators-is, w.in_ok-push.ensures.ok) (named_more c.args.bytes.now c.args.statements.now c.loop-statement.statement-index c.statement-item.result w.in-Operator.name w.in-Operator.arity w.in-Operator.body c.loop-statement.operators c.loop-statement-test.true c.statement-item.is w.in-Operator.is c.loop-statement.invariant.named w.in_ok-operator.operator w.in_ok-operator.ensures.name);
        gives = λ orderings kept. rw (w.operators-is, w.in_ok-push.ensures.ok) (operators_more c.args.bytes.now c.args.statements.now c.loop-statement.statement-index c.statement-item.result w.in-Operator.name w.in-Operator.arity w.in-Operator.body c.loop-statement.operators c.loop-statement-test.true c.statement-item.is w.in-Operator.is c.loop-statement.invariant.named c.args.names.now orderings w.in_ok-operator.operator (c.loop-statement.invariant.gives orderings kept)
            (w.in_ok-operator.ensures.gives orderings kept (filter_map operator_in (take c.loop-statement.statement-index c.args.statements.now)) (ap (λ os. map (λ o. o.name) os) w.items-earlier.ensures ∙ c.loop-statement.invariant.named)));
      })
      | in_default w ↦ (
          let same = found_no_more operator_in c.args.statements.now c.loop-statement.statement-index c.statement-item.result c.loop-statement-test.true c.statement-item.is (no_operator c.statement-item.result w.in_default.not-Operator) in
          record {
            named = rw (w.operators-is, same) c.loop-statement.invariant.named;
            gives = λ orderings kept. rw (w.operators-is, same) (c.loop-statement.invariant.gives orderings kept);
          })
    ]
