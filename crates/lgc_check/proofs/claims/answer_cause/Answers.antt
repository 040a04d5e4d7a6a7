-- By lines that are cited for goals.
use Rattle.std.proofs.Common.{◌≡◌, ℕ, List, sym, subst}
use Rattle.std.specs.Prelude.{IfOk}
use Rattle.std.proofs.lemmas.Result.{IfOk-weaker}
use Rattle.lgc_steps.specs.StepTests.{first_failing}
use Rattle.lgc_check.specs.Causes.{found_of_answer, found_of_goals}
use Rattle.lgc_check.specs.ClaimTests.{goal_tests}
use Rattle.lgc_check.proofs.ClaimLaws.{goals_by}
use Rattle.lgc_check.proofs.claims.answer_cause.Goals as goal

pub returns-in-Proved : goal.returns-in-Proved
returns-in-Proved g c =
    let logic = c.args.m.now in
    let lines = c.args.lines.now in
    let query = c.args.query.now in
    let cited : List ℕ = c.in-Proved.cited in
    let items : List ℕ = c.items.result.now in
    subst (λ evidence. IfOk c.goals_cause.result (found_of_answer logic lines query evidence)) (sym c.in-Proved.is)
    (IfOk-weaker c.goals_cause.result (λ found. found ≡ first_failing (goal_tests g.row.N lines query items)) (found_of_goals logic.size lines query cited)
    (λ found is. goals_by g.row.N logic lines query cited items found c.operators-operators.ensures.size c.items.ensures is) c.goals_cause.ensures)

pub returns-in-Unfinished : goal.returns-in-Unfinished
returns-in-Unfinished g c =
    let logic = c.args.m.now in
    let lines = c.args.lines.now in
    let query = c.args.query.now in
    let cited : List ℕ = c.in-Unfinished.cited in
    let items : List ℕ = c.items-in-Unfinished.result.now in
    subst (λ evidence. IfOk c.goals_cause-in-Unfinished.result (found_of_answer logic lines query evidence)) (sym c.in-Unfinished.is)
    (IfOk-weaker c.goals_cause-in-Unfinished.result (λ found. found ≡ first_failing (goal_tests g.row.N lines query items)) (found_of_goals logic.size lines query cited)
    (λ found is. goals_by g.row.N logic lines query cited items found c.operators-operators.ensures.size c.items-in-Unfinished.ensures is) c.goals_cause-in-Unfinished.ensures)
