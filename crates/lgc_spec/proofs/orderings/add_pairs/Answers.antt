use Rattle.std.proofs.Common.{◌==◌, ◌∙◌, sym, ap, map}
use Rattle.std.specs.Int.{bit_at}
use Rattle.lgc_values.specs.Values.{members_of}
use Rattle.lgc_spec.proofs.LinkSteps.{part_of_member, part_of_none}
use Rattle.lgc_spec.proofs.orderings.add_pairs.Goals as goal
use Rattle.lgc_spec.proofs.orderings.add_pairs.Goals.{then-has+in_ok-add_from, else-has}

pub loop-a-preserved : goal.loop-a-preserved
loop-a-preserved c =
    elim c.if-has.branch [
      | then-has+in_ok-add_from w ↦ part_of_member (λ a. map (λ b. (a, b)) (members_of c.args.n c.args.right)) (λ v. bit_at c.args.left v == 1) c.loop-a.a c.args.links.now.items c.loop-a.links.items c.if-has.links.items c.loop-a.invariant (sym c.has.ensures ∙ w.if-has.true) (ap (λ l. l.items) w.links-is ∙ w.in_ok-add_from.ensures)
      | else-has w ↦ rw w.links-is (part_of_none (λ a. map (λ b. (a, b)) (members_of c.args.n c.args.right)) (λ v. bit_at c.args.left v == 1) c.loop-a.a c.args.links.now.items c.loop-a.links.items c.loop-a.invariant (sym c.has.ensures ∙ w.if-has.false))
    ]
