-- The lines of one query more.
use Rattle.std.proofs.Common.{◌+◌, [], take}
use Rattle.lgc_goals.specs.Goals.{goals_of}
use Rattle.lgc_clause_text.specs.Items.{items_of_goals, items_of_queries}
use Rattle.lgc_clause_text.proofs.PutLaws.{put_further, query_more}
use Rattle.lgc_clause_text.proofs.text.clauses_text.Goals as goal

pub loop-place-preserved : goal.loop-place-preserved
loop-place-preserved g c =
    let logic = c.args.m.now in
    let at = c.loop-place in
    let x = c.index-queries-place.result in
    record {
      put = put_further logic at.book c.put_query.new.book (items_of_queries logic 1 (take at.place c.args.queries.now)) (items_of_goals logic (at.place + 1) 1 (goals_of logic.size x)) (items_of_queries logic 1 (take (at.place + 1) c.args.queries.now)) [] at.text.items c.put_query.new.into.items c.put_query.ensures.kept
          (query_more logic c.args.queries.now at.place x c.loop-place-test.true c.index-queries-place.is) at.invariant.put c.in_ok-put_query.ensures.put;
      right = c.put_query.ensures.right;
    }
