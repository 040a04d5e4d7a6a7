use Rattle.std.proofs.Common.{◌≡◌, ◌<◌, ◌+◌, ◌∷◌, [], ◌++◌, true, length, take, get_or, arith, subst, sym, ap, ◌∙◌}
use Rattle.std.proofs.lemmas.List.{take_more, with_items_is}
use Rattle.lgc_orders.specs.Order.{TellsLinks, cell}
use Rattle.lgc_orders.proofs.TableLaws.{TellsLinks-added, TellsLinks-known}
use Rattle.lgc_orders.proofs.table.table_of.Goals as goal
use Rattle.lgc_orders.proofs.table.table_of.Goals.{then-not-has_pair, else-not-has_pair}

pub loop-low-preserved : goal.loop-low-preserved
loop-low-preserved c =
    let n = c.from-n.result in
    let links = c.args.links.now in
    let i = c.loop-low.low-index in
    let first = take i links in
    let low = c.from-low.result in
    let high = c.from-high.result in
    let old = c.loop-low.table.items in
    let values : ((get_or links i (0, 0)).0 < c.args.n) × ((get_or links i (0, 0)).1 < c.args.n) = c.requires i (0, 0) c.loop-low-test.true in
    let in_low : low < n = omega arith in
    let in_high : high < n = omega arith in
    let more : take (i + 1) links ≡ first ++ (low, high) ∷ [] = rw (c.from-low.ensures, c.from-high.ensures) (take_more links i (0, 0) c.loop-low-test.true) in
    elim c.if-not-has_pair.branch [
      | then-not-has_pair w ↦
          let new = w.add_link.new.table in
          let read : w.deref_mut.result.now ≡ old = w.deref_mut.ensures.value in
          let same : length new ≡ length old = w.add_link.auto.table ∙ ap length read in
          let is : c.if-not-has_pair.table.items ≡ new = ap (λ v. v.items) w.table-is ∙ with_items_is c.loop-low.table new (omega (arith, same, c.loop-low.table.ok.0)) in
          let told : TellsLinks n first w.deref_mut.result.now = subst (λ table. TellsLinks n first table) (sym read) c.loop-low.invariant in
          rw (is, more) (TellsLinks-added n first low high w.deref_mut.result.now in_low in_high told new w.add_link.auto.table w.add_link.ensures)
      | else-not-has_pair w ↦
          let known : cell old n low high ≡ true = sym (ap (λ table. cell table n low high) c.deref.ensures.value) ∙ sym c.has_pair.ensures ∙ w.if-not-has_pair.false in
          rw (w.table-is, more) (TellsLinks-known n first low high old in_low in_high c.loop-low.invariant known)
    ]
