-- One goal more includes its line.
use Rattle.std.proofs.Common.{◌≡◌, ℕ, ◌+◌, ◌<◌, ◌≤◌, ◌&&◌, false, true, List, length, get_or, drop, refl, sym, ap, ◌∙◌, arith}
use Rattle.std.proofs.lemmas.Bool.{and_left}
use Rattle.lgc_goals.specs.Goals.{goals_of}
use Rattle.lgc_goals.proofs.Truth.{length-goals_of}
use Rattle.lgc_sequents.specs.Signed.{SignedFormula}
use Rattle.lgc_steps.specs.StepTests.{all_zip}
use Rattle.lgc_check.specs.ClaimTests.{is_included_at}
use Rattle.lgc_check.proofs.ClaimLaws.{zip_next, zip_ended, zip_uneven}
use Rattle.lgc_check.proofs.claims.are_in_goals.Goals as goal

pub returns-then-cited-count : goal.returns-then-cited-count
returns-then-cited-count g c =
    let cited : List ℕ = c.args.cited.now in
    let goals = goals_of g.row.N c.args.query.now in
    zip_uneven (is_included_at c.args.lines.now) cited goals (λ same. omega (arith, same, length-goals_of g.row.N c.args.query.now, c.goal_count-count.ensures))

pub returns-then-not-is_included_at : goal.returns-then-not-is_included_at
returns-then-not-is_included_at g c =
    let cited : List ℕ = c.args.cited.now in
    let goals = goals_of g.row.N c.args.query.now in
    let place = c.loop-place.place in
    let test = is_included_at c.args.lines.now in
    let position = get_or cited place 0 in
    let goal : List SignedFormula = c.in_ok-goal.goal in
    let within : place < length cited = omega (arith, c.loop-place-test.true) in
    let fails : test position goal ≡ false = cc in
    sym (c.loop-place.invariant ∙ zip_next test cited goals place position 0 goal within refl c.in_ok-goal.ensures ∙ and_left (test position goal) (all_zip test (drop (place + 1) cited) (drop (place + 1) goals)) fails)

pub loop-place-preserved : goal.loop-place-preserved
loop-place-preserved g c =
    let cited : List ℕ = c.args.cited.now in
    let goals = goals_of g.row.N c.args.query.now in
    let place = c.loop-place.place in
    let test = is_included_at c.args.lines.now in
    let position = get_or cited place 0 in
    let goal : List SignedFormula = c.in_ok-goal.goal in
    let within : place < length cited = omega (arith, c.loop-place-test.true) in
    let passes : test position goal ≡ true = cc in
    c.loop-place.invariant ∙ zip_next test cited goals place position 0 goal within refl c.in_ok-goal.ensures ∙ ap (λ b. b && all_zip test (drop (place + 1) cited) (drop (place + 1) goals)) passes

pub returns : goal.returns
returns g c =
    let cited : List ℕ = c.args.cited.now in
    let goals = goals_of g.row.N c.args.query.now in
    let place = c.loop-place.place in
    let many : length goals ≤ place = omega (arith, length-goals_of g.row.N c.args.query.now, c.goal_count-count.ensures, c.loop-place-test.false) in
    sym (c.loop-place.invariant ∙ zip_ended (is_included_at c.args.lines.now) cited goals place (omega arith) many)
