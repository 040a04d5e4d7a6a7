-- One more item is written with a comma before it, where it has values.
use Rattle.std.proofs.Common.{◌≡◌, ◌∙◌, ◌++◌, take, map, ap, sym, arith}
use Rattle.std.specs.Prelude.{codes}
use Rattle.std.proofs.lemmas.Grind.{common_steps}
use Rattle.std.proofs.lemmas.Bool.{both_ways}
use Rattle.lgc_print.proofs.TextLaws.{between, between_more, joined_more}
use Rattle.lgc_print.specs.Text.{joined}
use Rattle.lgc_sequents.specs.Signed.{SignedFormula}
use Rattle.lgc_report.specs.ReportText.{item_text}
use Rattle.lgc_tableau_text.specs.TableauText.{with_values}
use Rattle.lgc_tableau_text.proofs.TableauLaws.{texts_kept, texts_passed, items_by_commas}
use Rattle.lgc_tableau_text.proofs.text.put_added.Goals as goal
use Rattle.lgc_tableau_text.proofs.text.put_added.Goals.{then-not-is_empty+in_ok-extend_from_slice+in_ok-put_item, else-not-is_empty}

pub loop-item-preserved : goal.loop-item-preserved
loop-item-preserved g c =
    elim c.if-not-is_empty.branch [
      | then-not-is_empty+in_ok-extend_from_slice+in_ok-put_item w ↦
          let same : c.item.inside.sign ≡ c.item-item.result.sign = ap (λ (x : SignedFormula). x.sign) c.item.view_is in
          let step = texts_kept c.args.m.now c.args.added.now c.loop-item.item-index c.item-item.result c.loop-item-test.true c.item-item.is (λ e. both_ways c.is_empty.result w.if-not-is_empty.true (c.is_empty.ensures.1 (same ∙ e))) in
          let join = joined_more (codes ", ") (map (item_text c.args.m.now) (with_values (take c.loop-item.item-index c.args.added.now))) (item_text c.args.m.now c.item-item.result) in
          record { so_far = rw (step, join) (grind (arith, common_steps)); next = rw (step, between_more) (grind (arith, common_steps)) }
      | else-not-is_empty w ↦
          let same : c.item.inside.sign ≡ c.item-item.result.sign = ap (λ (x : SignedFormula). x.sign) c.item.view_is in
          let step = texts_passed c.args.m.now c.args.added.now c.loop-item.item-index c.item-item.result c.loop-item-test.true c.item-item.is (sym same ∙ c.is_empty.ensures.0 w.if-not-is_empty.false) in
          record { so_far = rw step (grind (arith, common_steps)); next = rw step (grind (arith, common_steps)) }
    ]

pub returns-else-is_empty : goal.returns-else-is_empty
returns-else-is_empty g c =
    let whole : take c.loop-item.item-index c.args.added.now ≡ c.args.added.now = grind (arith, common_steps) in
    let shown : c.loop-item.separator.now ≡ between (codes ", ") (map (item_text c.args.m.now) (with_values c.args.added.now)) = c.loop-item.invariant.next ∙ ap (λ items. between (codes ", ") (map (item_text c.args.m.now) (with_values items))) whole in
    c.loop-item.invariant.so_far ∙ ap (λ items. c.args.into.now.items ++ joined (codes ", ") (map (item_text c.args.m.now) (with_values items))) whole
    ∙ ap (λ text. c.args.into.now.items ++ text) (sym (items_by_commas c.args.m.now (with_values c.args.added.now) c.loop-item.separator.now shown (sym c.is_empty-2.ensures ∙ c.if-is_empty.false)))
