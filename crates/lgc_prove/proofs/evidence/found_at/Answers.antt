-- The goal is one for the logic, and the lines that are appended for it are appended for the query.
use Rattle.std.proofs.Common.{◌≡◌, ℕ, Some, false, slice_get, sym, subst, arith}
use Rattle.std.proofs.lemmas.Result.{IfOk-weaker}
use Rattle.lgc_syntax.specs.Fits.{Fits}
use Rattle.lgc_syntax.specs.Sizes.{has_quantifier}
use Rattle.lgc_goals.specs.Goals.{goals_of}
use Rattle.lgc_proofs.specs.declared.found.Found.{Found}
use Rattle.lgc_proofs.specs.Found.{IsFound}
use Rattle.lgc_prove.specs.Work.{AreLinesBy, AreAppendedFor}
use Rattle.lgc_goals.proofs.GoalFormulas.{all_of_goal_at}
use Rattle.lgc_prove.proofs.LineLaws.{lines_appended, appended_for_goal}
use Rattle.lgc_prove.proofs.evidence.found_at.Goals as goal

pub prove-requires : goal.prove-requires
prove-requires g c =
    let logic = c.args.m.now in
    let query = c.args.query.now in
    let made = c.in_ok-goal.goal in
    let at : slice_get (goals_of logic.size query) c.args.place ≡ Some made = subst (λ (n : ℕ). slice_get (goals_of n query) c.args.place ≡ Some made) (sym c.operators-operators.ensures.size) c.in_ok-goal.ensures in
    let fit = all_of_goal_at (Fits logic) logic.size query c.args.place made at c.requires.asked.writable.query_for.fits.formulas in
    let propositional = all_of_goal_at (λ f. has_quantifier f ≡ false) logic.size query c.args.place made at c.requires.asked.propositional in
    (omega arith, (omega arith, (omega arith, (omega arith, (fit, (propositional, c.requires.lines.right))))))

pub returns-clause-lines : goal.returns-clause-lines
returns-clause-lines g c =
    let logic = c.args.m.now in
    let made = c.in_ok-goal.goal in
    IfOk-weaker c.prove.result (IsFound logic c.prove.new.self made) (λ (found : Found). AreLinesBy logic c.prove.new.book c.prove.new.self)
    (λ found is. lines_appended logic made c.args.book.now c.prove.new.book c.args.proofs.now c.prove.new.self c.requires.lines c.prove.ensures.rules c.prove.ensures.right c.prove.ensures.appended) c.prove.ensures.found

pub returns-clause-appended : goal.returns-clause-appended
returns-clause-appended g c =
    let logic = c.args.m.now in
    let query = c.args.query.now in
    let made = c.in_ok-goal.goal in
    let at : slice_get (goals_of logic.size query) c.args.place ≡ Some made = subst (λ (n : ℕ). slice_get (goals_of n query) c.args.place ≡ Some made) (sym c.operators-operators.ensures.size) c.in_ok-goal.ensures in
    IfOk-weaker c.prove.result (IsFound logic c.prove.new.self made) (λ (found : Found). AreAppendedFor query c.args.proofs.now c.prove.new.self)
    (λ found is. appended_for_goal logic query c.args.place made c.prove.new.book c.args.proofs.now c.prove.new.self at c.prove.ensures.appended) c.prove.ensures.found
