use Rattle.std.proofs.Common.{◌∙◌, ap, arith}
use Rattle.lgc_spec.specs.Values.{values_named}
use Rattle.lgc_spec.proofs.LinkSteps.{links_next}
use Rattle.lgc_spec.proofs.orderings.add_chain.Goals as goal

pub loop-i-preserved : goal.loop-i-preserved
loop-i-preserved c = record {
  behind = omega arith;
  links = links_next c.args.text.now c.args.names.now c.args.chain.now c.loop-i.i _ _ _ _ c.args.links.now.items c.loop-i.links.items _ c.loop-i.invariant.behind c.loop-i-test.true c.loop-i.invariant.links
      (c.mask_named-left.ensures.members ∙ ap (values_named c.args.text.now c.args.names.now) (c.items.ensures ∙ c.index-chain-i.is))
      (c.mask_named-right.ensures.members ∙ ap (values_named c.args.text.now c.args.names.now) (c.items-in-loop-i.ensures ∙ c.index-chain-i-in-loop-i.is))
      c.in_ok-add_pairs.ensures;
}
