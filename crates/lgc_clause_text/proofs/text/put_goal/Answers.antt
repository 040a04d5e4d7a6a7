-- The line of one item more.
use Rattle.std.proofs.Common.{◌+◌, ◌∷◌, [], take}
use Rattle.lgc_goals.specs.Goals.{complement}
use Rattle.lgc_translate.proofs.CoverLaws.{kept_further}
use Rattle.lgc_clause_text.specs.Items.{GoalItem, items_of_goal}
use Rattle.lgc_clause_text.proofs.PutLaws.{put_further, item_more}
use Rattle.lgc_clause_text.proofs.text.put_goal.Goals as goal

pub loop-place-preserved : goal.loop-place-preserved
loop-place-preserved g c =
    let logic = c.args.m.now in
    let at = c.loop-place in
    let x = c.index-items-place.result in
    let so_far = items_of_goal logic c.args.query c.args.goal 1 (take at.place c.args.items.now) in
    let item : GoalItem = record { query = c.args.query; goal = c.args.goal; item = at.place + 1; formula = x.formula; sign = complement logic.size x.sign } in
    record {
      put = put_further logic at.book c.put_item.new.book so_far (item ∷ []) (items_of_goal logic c.args.query c.args.goal 1 (take (at.place + 1) c.args.items.now)) c.args.into.now.items at.into.items c.put_item.new.into.items c.put_item.ensures.kept
          (item_more logic c.args.query c.args.goal c.args.items.now at.place x c.loop-place-test.true c.index-items-place.is) at.invariant.put c.in_ok-put_item.ensures.put;
      kept = kept_further c.args.book.now at.book c.put_item.new.book at.invariant.kept c.put_item.ensures.kept;
      right = c.put_item.ensures.right;
    }
