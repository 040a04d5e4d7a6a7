use Rattle.std.proofs.Common.{◌≡◌, ◌&&◌, Bool, true, false, sym, ◌∙◌, refl, arith}
use Rattle.lgc_orders.proofs.TableLaws.{IsAdded-set, IsAdded-kept}
use Rattle.lgc_orders.proofs.table.add_link.Goals as goal
use Rattle.lgc_orders.proofs.table.add_link.Goals.{then-has_pair+then-has_pair-2, else-has_pair, else-has_pair-via-then-has_pair+else-has_pair-2, else-has_pair-via-else-has_pair}

both : (x y : Bool) → x ≡ true → y ≡ true → (x && y) ≡ true
both x y p q = rw (p, q) refl

not_first : (x y : Bool) → x ≡ false → (x && y) ≡ false
not_first x y p = rw p refl

not_second : (x y : Bool) → y ≡ false → (x && y) ≡ false
not_second true y p = p
not_second false y p = refl

pub loop-place-preserved : goal.loop-place-preserved
loop-place-preserved c =
    elim c.if-has_pair.branch [
      | then-has_pair+then-has_pair-2 w ↦ rw w.table-is (IsAdded-set c.args.n c.args.low c.args.high c.args.table.now c.loop-place.table c.loop-place.place c.requires.low c.requires.high c.loop-place.invariant (omega arith)
          (both _ _ (sym c.has_pair.ensures ∙ w.if-has_pair.true) (sym w.has_pair-then-has_pair.ensures ∙ w.if-has_pair-2.true)))
      | else-has_pair w ↦ rw w.table-is (IsAdded-kept c.args.n c.args.low c.args.high c.args.table.now c.loop-place.table c.loop-place.place c.requires.low c.requires.high c.loop-place.invariant
          (elim w.else-has_pair.branch [
            | else-has_pair-via-then-has_pair+else-has_pair-2 w' ↦ not_second _ _ (sym w'.has_pair-then-has_pair.ensures ∙ w'.if-has_pair-2.false)
            | else-has_pair-via-else-has_pair w' ↦ not_first _ _ (sym c.has_pair.ensures ∙ w'.if-has_pair.false)
          ]))
    ]
