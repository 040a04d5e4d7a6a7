use Rattle.std.proofs.Common.{◌==◌, ◌∙◌, sym, ap}
use Rattle.std.specs.Int.{bit_at}
use Rattle.lgc_spec.proofs.LinkSteps.{item_of_member, item_of_none}
use Rattle.lgc_spec.proofs.orderings.add_from.Goals as goal
use Rattle.lgc_spec.proofs.orderings.add_from.Goals.{then-has+in_ok-push, else-has}

pub loop-b-preserved : goal.loop-b-preserved
loop-b-preserved c =
    elim c.if-has.branch [
      | then-has+in_ok-push w ↦ item_of_member (λ b. (c.args.a, b)) (λ v. bit_at c.args.right v == 1) c.loop-b.b c.args.links.now.items c.loop-b.links.items c.if-has.links.items c.loop-b.invariant (sym c.has.ensures ∙ w.if-has.true) (ap (λ l. l.items) w.links-is ∙ w.in_ok-push.ensures.items)
      | else-has w ↦ rw w.links-is (item_of_none (λ b. (c.args.a, b)) (λ v. bit_at c.args.right v == 1) c.loop-b.b c.args.links.now.items c.loop-b.links.items c.loop-b.invariant (sym c.has.ensures ∙ w.if-has.false))
    ]
