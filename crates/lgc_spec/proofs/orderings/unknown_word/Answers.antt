use Rattle.std.proofs.Common.{sym, ap, ◌∙◌, not}
use Rattle.std.specs.List.{flat_map}
use Rattle.lgc_spec.specs.Words.{text_of, is_among, unknown_word}
use Rattle.lgc_spec.proofs.LinkSteps.{found_in_part, passes_part}
use Rattle.lgc_spec.proofs.orderings.unknown_word.Goals as goal

pub returns-in-Some : goal.returns-in-Some
returns-in-Some c =
    sym (found_in_part (λ w. not (is_among c.args.names.now (text_of c.args.text.now w))) (flat_map (λ node. node)) c.args.chains.now c.loop-chain.chain-index _ _ c.loop-chain-test.true c.chain-item.is c.loop-chain.invariant (ap (λ l. unknown_word c.args.text.now c.args.names.now (flat_map (λ node. node) l)) (sym c.items.ensures) ∙ sym c.in-Some.ensures))

pub loop-chain-preserved : goal.loop-chain-preserved
loop-chain-preserved c =
    passes_part (λ w. not (is_among c.args.names.now (text_of c.args.text.now w))) (flat_map (λ node. node)) c.args.chains.now c.loop-chain.chain-index _ c.loop-chain-test.true c.chain-item.is c.loop-chain.invariant (ap (λ l. unknown_word c.args.text.now c.args.names.now (flat_map (λ node. node) l)) (sym c.items.ensures) ∙ sym c.in_default.ensures)
