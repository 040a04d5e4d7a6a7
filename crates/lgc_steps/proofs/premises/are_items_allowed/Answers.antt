-- One more item is allowed.
use Rattle.std.proofs.Common.{◌+◌, ◌&&◌, ◌∷◌, drop, sym, ap, ◌∙◌}
use Rattle.std.proofs.lemmas.List.{drop_more}
use Rattle.lgc_clauses.specs.Kinds.{plain_rule}
use Rattle.lgc_clauses.specs.Irredundance.{clause_at}
use Rattle.lgc_sequents.specs.Signed.{SignedFormula}
use Rattle.lgc_sequents.specs.Steps.{auxiliary_formulas, are_allowed}
use Rattle.lgc_steps.proofs.premises.are_items_allowed.Goals as goal

pub loop-item-preserved : goal.loop-item-preserved
loop-item-preserved g c =
    let i = c.loop-item.item-index in
    let items = c.args.items.now in
    let item = c.item-item.result in
    let auxiliary = auxiliary_formulas (plain_rule c.args.rule.now).head (clause_at (plain_rule c.args.rule.now).clauses c.args.i) c.args.principal.now c.args.terms.now in
    record {
      allowed =
          c.loop-item.invariant.allowed
          ∙ ap (are_allowed c.args.conclusion.now auxiliary) (drop_more items i item c.loop-item-test.true ∙ ap (λ (x : SignedFormula). x ∷ drop (i + 1) items) (sym c.item-item.is))
          ∙ ap (λ b. b && are_allowed c.args.conclusion.now auxiliary (drop (i + 1) items)) (sym c.is_item_allowed.ensures.allowed ∙ c.if-not-is_item_allowed.false);
      near = c.is_item_allowed.ensures.near;
    }
