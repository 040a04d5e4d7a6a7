-- One goal more is put, and all of them.
use Rattle.std.proofs.Common.{◌≡◌, ◌≤◌, ◌&&◌, ℕ, ap, ◌∙◌, arith}
use Rattle.lgc_goals.specs.Goals.{goal_count}
use Rattle.lgc_goals.proofs.Truth.{length-goals_of}
use Rattle.lgc_lemmas.proofs.StepLaws.{grown_same, grown_more}
use Rattle.lgc_tableaux.proofs.TableauxLaws.{no_goals, one_goal_more, all_goals}
use Rattle.lgc_tableaux.proofs.tableaux.put_query.Goals as goal
use Rattle.lgc_tableaux.proofs.tableaux.put_query.Goals.{then-all_closed, else-all_closed}

pub loop-place-init : goal.loop-place-init
loop-place-init g c = record {
  put = no_goals g.row.N c.args.m.now c.args.number c.args.book.now c.args.query.now c.args.into.now.items;
  grown = grown_same c.args.book.now;
  right = c.requires.right;
}

pub loop-place-preserved : goal.loop-place-preserved
loop-place-preserved g c =
    let at = c.loop-place in
    let new = c.put_goal.new.book in
    let closed = c.in_ok-closed.closed in
    let both : c.if-all_closed.all_closed ≡ (at.all_closed && closed) = elim c.if-all_closed.branch [
      | then-all_closed w ↦ rw w.if-all_closed.true w.all_closed-is
      | else-all_closed w ↦ rw w.if-all_closed.false (w.all_closed-is ∙ w.if-all_closed.false)
    ] in
    record {
      put = one_goal_more g.row.N c.args.m.now c.args.number at.book new c.args.query.now at.place at.all_closed closed c.if-all_closed.all_closed c.args.into.now.items at.into.items c.put_goal.new.into.items c.in_ok-closed.ensures.rules at.invariant.put c.in_ok-closed.ensures.put both;
      grown = grown_more c.args.book.now at.book new at.invariant.grown c.in_ok-closed.ensures.rules;
      right = c.in_ok-closed.ensures.right;
    }

pub returns-clause-put : goal.returns-clause-put
returns-clause-put g c =
    let logic = c.args.m.now in
    let query = c.args.query.now in
    let at = c.loop-place in
    let counted : goal_count logic.size query ≤ at.place = omega (arith, c.loop-place-test.false, c.goal_count-place-end.ensures, ap (λ (n : ℕ). goal_count n query) c.operators-operators.ensures.size) in
    all_goals g.row.N logic c.args.number at.book query at.place at.all_closed c.args.into.now.items at.into.items (omega (arith, counted, length-goals_of logic.size query)) at.invariant.put
