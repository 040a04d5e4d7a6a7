use Rattle.std.proofs.Common.{ap, map, ◌∙◌, take}
use Rattle.std.specs.Prelude.{filter_map}
use Rattle.lgc_spec.specs.Quantifiers.{quantifier_in, QuantifiersGive}
use Rattle.lgc_spec.proofs.FaultLaws.{handed_on}
use Rattle.lgc_spec.proofs.InTurnLaws.{found_no_more}
use Rattle.lgc_spec.proofs.QuantifierSteps.{no_quantifier, named_more, quantifiers_more, quantifiers_stop}
use Rattle.lgc_spec.proofs.quantifiers.quantifiers_given.Goals as goal
use Rattle.lgc_spec.proofs.quantifiers.quantifiers_given.Goals.{in-Quantifier+in_ok-quantifier+in_ok-push, in_default}

pub returns-in_err-quantifier : goal.returns-in_err-quantifier
returns-in_err-quantifier c = λ orderings kept.
    handed_on (QuantifiersGive c.args.bytes.now c.args.names.now orderings c.args.operators.now c.args.statements.now) c.in_err-quantifier.field-0.0 c.from_residual.result c.from_residual.ensures.1
    (quantifiers_stop c.args.bytes.now c.args.statements.now c.loop-statement.statement-index c.statement-item.result c.in-Quantifier.name c.in-Quantifier.body c.loop-statement.quantifiers c.loop-statement-test.true c.statement-item.is c.in-Quantifier.is c.args.names.now orderings c.args.operators.now (c.loop-statement.invariant.gives orderings kept) c.in_err-quantifier.field-0.0
    (c.in_err-quantifier.ensures.gives orderings kept (filter_map quantifier_in (take c.loop-statement.statement-index c.args.statements.now)) (ap (λ qs. map (λ q. q.name) qs) c.items-earlier.ensures ∙ c.loop-statement.invariant.named)))

pub loop-statement-preserved : goal.loop-statement-preserved
loop-statement-preserved c =
    elim c.match-statement.branch [
      | in-Quantifier+in_ok-quantifier+in_ok-push w ↦ (record {
        named = rw (w.quantifiers-is, w.in_ok-push.ensures.ok) (named_more c.args.bytes.now c.args.statements.now c.loop-statement.statement-index c.statement-item.result w.in-Quantifier.name w.in-Quantifier.body c.loop-statement.quantifiers c.loop-statement-test.true c.statement-item.is w.in-Quantifier.is c.loop-statement.invariant.named w.in_ok-quantifier.quantifier w.in_ok-quantifier.ensures.name);
        gives = λ orderings kept. rw (w.quantifiers-is, w.in_ok-push.ensures.ok) (quantifiers_more c.args.bytes.now c.args.statements.now c.loop-statement.statement-index c.statement-item.result w.in-Quantifier.name w.in-Quantifier.body c.loop-statement.quantifiers c.loop-statement-test.true c.statement-item.is w.in-Quantifier.is c.args.names.now orderings c.args.operators.now (c.loop-statement.invariant.gives orderings kept) w.in_ok-quantifier.quantifier
            (w.in_ok-quantifier.ensures.gives orderings kept (filter_map quantifier_in (take c.loop-statement.statement-index c.args.statements.now)) (ap (λ qs. map (λ q. q.name) qs) w.items-earlier.ensures ∙ c.loop-statement.invariant.named)));
      })
      | in_default w ↦ (
          let same = found_no_more quantifier_in c.args.statements.now c.loop-statement.statement-index c.statement-item.result c.loop-statement-test.true c.statement-item.is (no_quantifier c.statement-item.result w.in_default.not-Quantifier) in
          record {
            named = rw (w.quantifiers-is, same) c.loop-statement.invariant.named;
            gives = λ orderings kept. rw (w.quantifiers-is, same) (c.loop-statement.invariant.gives orderings kept);
          })
    ]
