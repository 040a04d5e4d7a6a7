use Rattle.std.proofs.Common.{◌≡◌, ◌*◌, ◌/◌, ◌%◌, length, get_or, refl, ◌∙◌, arith}
use Rattle.std.proofs.lemmas.Grind.{get_or_default_zero}
use Rattle.lgc_orders.specs.Order.{Below}
use Rattle.lgc_spec.proofs.BoundSteps.{bound_fault}
use Rattle.lgc_spec.proofs.OperatorShapes.{square, bound_below}
use Rattle.lgc_spec.proofs.bounds.bounds_given.Goals as goal

pub returns-in-None-clause-bounds : goal.returns-in-None-clause-bounds
returns-in-None-clause-bounds c =
    bound_fault c.args.lower c.args.names.now c.args.at (Below c.args.order.now) c.loop-row.row c.args.order.now.size c.loop-row.table _ _ c.requires.size c.loop-row-test.true c.in-None.ensures c.loop-row.invariant.bounds c.in_ok-pair_names-in-None.ensures c.keeping.ensures

pub returns-clause-rows : goal.returns-clause-rows
returns-clause-rows c =
    let n = length c.args.names.now in
    let whole : c.loop-row.row ≡ n * n = omega arith in
    record {
      rows = c.loop-row.invariant.size ∙ whole ∙ square n 2 refl;
      entries = λ k d lt. rw (get_or_default_zero c.loop-row.table k d lt)
          (bound_below c.args.lower n (Below c.args.order.now) (k / n) (k % n) (get_or c.loop-row.table k 0) (c.loop-row.invariant.bounds k (omega (arith, lt, c.loop-row.invariant.size))));
    }
