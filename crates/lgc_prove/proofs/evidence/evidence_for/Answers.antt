-- One goal more is proved, all of them, or one is refuted.
use Rattle.std.proofs.Common.{◌≤◌, ℕ, length, sym, ap, subst, arith}
use Rattle.lgc_goals.specs.Goals.{goal_count}
use Rattle.lgc_proofs.specs.declared.found.Found.{Found}
use Rattle.lgc_prove.specs.Work.{IsFoundAt, AreLinesBy, AreAppendedFor}
use Rattle.lgc_prove.proofs.LineLaws.{lines_before, none_appended, more_appended, appended_taken}
use Rattle.lgc_prove.proofs.EvidenceLaws.{one_more_proved, proved_answers, refuted_answers}
use Rattle.lgc_prove.proofs.evidence.evidence_for.Goals as goal

pub loop-place-preserved : goal.loop-place-preserved
loop-place-preserved g c =
    let logic = c.args.m.now in
    let query = c.args.query.now in
    let at = c.loop-place in
    let Q : Found → Type 0 = IsFoundAt logic c.found_at.new.proofs query at.place in
    let found = subst Q c.in-Line.is c.in_ok-position.ensures.found in (
      c.in_ok-position.ensures.lines,
      more_appended query c.args.proofs.now at.proofs c.found_at.new.proofs at.invariant.1 c.in_ok-position.ensures.appended,
      one_more_proved logic query at.proofs c.found_at.new.proofs at.cited c.push.new.self at.place c.in-Line.position found.goal c.in_ok-position.ensures.appended found.is found.sequent found.right c.in_ok-push-in-Line.ensures.ok at.invariant.2,
    )

pub returns-in-Refuted-clause-evidence : goal.returns-in-Refuted-clause-evidence
returns-in-Refuted-clause-evidence g c =
    let logic = c.args.m.now in
    let query = c.args.query.now in
    let Q : Found → Type 0 = IsFoundAt logic c.found_at.new.proofs query c.loop-place.place in
    let found = subst Q c.in-Refuted.is c.in_ok-position.ensures.found in
    refuted_answers logic c.operators-operators.ensures.logic query c.truncate.new.self c.loop-place.place found.goal c.in-Refuted.v c.in_ok-values-in-Refuted.values c.requires.asked.writable.query_for.fits c.requires.asked.propositional found.is found.right c.in_ok-values-in-Refuted.ensures

pub returns-in-Refuted-clause-lines : goal.returns-in-Refuted-clause-lines
returns-in-Refuted-clause-lines g c =
    let logic = c.args.m.now in
    let query = c.args.query.now in
    let at = c.loop-place in
    let appended = more_appended query c.args.proofs.now at.proofs c.found_at.new.proofs at.invariant.1 c.in_ok-position.ensures.appended in
    let left = appended_taken query c.args.proofs.now c.found_at.new.proofs c.truncate.new.self _ appended (ap length c.lines.ensures.lines) c.truncate.ensures in
    subst (AreLinesBy logic c.found_at.new.book) (sym left) (lines_before logic query c.found_at.new.book c.args.proofs.now c.found_at.new.proofs c.in_ok-position.ensures.lines appended)

pub returns-in-Refuted-clause-appended : goal.returns-in-Refuted-clause-appended
returns-in-Refuted-clause-appended g c =
    let query = c.args.query.now in
    let at = c.loop-place in
    let appended = more_appended query c.args.proofs.now at.proofs c.found_at.new.proofs at.invariant.1 c.in_ok-position.ensures.appended in
    let left = appended_taken query c.args.proofs.now c.found_at.new.proofs c.truncate.new.self _ appended (ap length c.lines.ensures.lines) c.truncate.ensures in
    subst (AreAppendedFor query c.args.proofs.now) (sym left) (none_appended query c.args.proofs.now)

pub returns-clause-evidence : goal.returns-clause-evidence
returns-clause-evidence g c =
    let logic = c.args.m.now in
    let query = c.args.query.now in
    let at = c.loop-place in
    let counted : goal_count logic.size query ≤ at.place = omega (arith, c.loop-place-test.false, c.goal_count-place-end.ensures, ap (λ (n : ℕ). goal_count n query) c.operators-operators.ensures.size) in
    proved_answers logic c.operators-operators.ensures.logic query at.proofs at.cited at.place at.invariant.0.plain counted at.invariant.2
