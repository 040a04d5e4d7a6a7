use Rattle.std.proofs.Common.{sym, ◌∙◌, arith}
use Rattle.std.proofs.lemmas.Bool.{false≢true}
use Rattle.lgc_orders.proofs.TableLaws.{HasNoneBefore-more, cell-at}
use Rattle.lgc_orders.proofs.table.first_cycle.Goals as goal
use Rattle.lgc_orders.proofs.table.first_cycle.Goals.{else-a-b-via-then-a-b+then-table-place+else-has_pair, else-a-b-via-then-a-b+else-table-place, else-a-b-via-else-a-b}

pub loop-place-preserved : goal.loop-place-preserved
loop-place-preserved c =
    HasNoneBefore-more c.from-n.result c.args.table.now c.loop-place.place c.loop-place.invariant (λ cycle.
    elim c.else-a-b.branch [
      | else-a-b-via-then-a-b+then-table-place+else-has_pair w ↦ false≢true (sym w.if-has_pair.false ∙ w.has_pair.ensures ∙ cycle.down)
      | else-a-b-via-then-a-b+else-table-place w ↦ false≢true (sym w.if-table-place.false ∙ sym (cell-at c.args.table.now c.from-n.result c.loop-place.place) ∙ cycle.up)
      | else-a-b-via-else-a-b w ↦ absurd (omega arith)
    ])
