use Rattle.std.proofs.Common.{sym, ap, ◌∙◌, not}
use Rattle.lgc_spec.specs.Words.{text_of, is_among, unknown_word}
use Rattle.lgc_spec.proofs.LinkSteps.{found_in_part, passes_part}
use Rattle.lgc_spec.proofs.orderings.unknown_in_chain.Goals as goal

pub returns-in-Some : goal.returns-in-Some
returns-in-Some c =
    sym (found_in_part (λ w. not (is_among c.args.names.now (text_of c.args.text.now w))) (λ node. node) c.args.chain.now c.loop-node.node-index _ _ c.loop-node-test.true c.node-item.is c.loop-node.invariant (ap (unknown_word c.args.text.now c.args.names.now) (sym c.items.ensures) ∙ sym c.in-Some.ensures))

pub loop-node-preserved : goal.loop-node-preserved
loop-node-preserved c =
    passes_part (λ w. not (is_among c.args.names.now (text_of c.args.text.now w))) (λ node. node) c.args.chain.now c.loop-node.node-index _ c.loop-node-test.true c.node-item.is c.loop-node.invariant (ap (unknown_word c.args.text.now c.args.names.now) (sym c.items.ensures) ∙ sym c.in_default.ensures)
