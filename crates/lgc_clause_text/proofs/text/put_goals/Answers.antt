-- The lines of one goal more.
use Rattle.std.proofs.Common.{◌+◌, take, List, subst}
use Rattle.lgc_sequents.specs.Signed.{SignedFormula}
use Rattle.lgc_translate.proofs.CoverLaws.{kept_further}
use Rattle.lgc_clause_text.specs.Items.{items_of_goal, items_of_goals}
use Rattle.lgc_clause_text.specs.Put.{ArePut}
use Rattle.lgc_clause_text.proofs.PutLaws.{put_further, goal_more}
use Rattle.lgc_clause_text.proofs.text.put_goals.Goals as goal

pub loop-place-preserved : goal.loop-place-preserved
loop-place-preserved g c =
    let logic = c.args.m.now in
    let at = c.loop-place in
    let x = c.index-goals-place.result in
    let new = c.put_goal.new.book in
    let lines = subst (λ (items : List SignedFormula). ArePut logic new (items_of_goal logic c.args.query (at.place + 1) 1 items) at.into.items c.put_goal.new.into.items) c.items.ensures.items c.in_ok-put_goal.ensures.put in
    record {
      put = put_further logic at.book new (items_of_goals logic c.args.query 1 (take at.place c.args.goals.now)) (items_of_goal logic c.args.query (at.place + 1) 1 x) (items_of_goals logic c.args.query 1 (take (at.place + 1) c.args.goals.now)) c.args.into.now.items at.into.items c.put_goal.new.into.items c.put_goal.ensures.kept
          (goal_more logic c.args.query c.args.goals.now at.place x c.loop-place-test.true c.index-goals-place.is) at.invariant.put lines;
      kept = kept_further c.args.book.now at.book new at.invariant.kept c.put_goal.ensures.kept;
      right = c.put_goal.ensures.right;
    }
