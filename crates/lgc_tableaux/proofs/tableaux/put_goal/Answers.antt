-- The goal is one of the query's, and what is built for it is put behind it.
use Rattle.std.proofs.Common.{◌≡◌, ◌<◌, ◌^◌, ℕ, Some, false, slice_get, sym, subst, arith}
use Rattle.std.specs.List.{All}
use Rattle.lgc_syntax.specs.Fits.{Fits}
use Rattle.lgc_syntax.specs.Sizes.{depth, has_quantifier}
use Rattle.lgc_sequents.specs.Signed.{SignedFormula}
use Rattle.lgc_goals.specs.Goals.{goals_of}
use Rattle.lgc_goals.proofs.GoalFormulas.{all_of_goal_at}
use Rattle.lgc_tableaux.proofs.TableauxLaws.{goal_put, goal_shallow, built_shallow}
use Rattle.lgc_tableaux.proofs.tableaux.put_goal.Goals as goal

pub build-requires : goal.build-requires
build-requires g c =
    let logic = c.args.m.now in
    let query = c.args.query.now in
    let made = c.in_ok-goal.goal in
    let at : slice_get (goals_of logic.size query) c.args.place ≡ Some made = subst (λ (n : ℕ). slice_get (goals_of n query) c.args.place ≡ Some made) (sym c.operators-operators.ensures.size) c.in_ok-goal.ensures in
    let fit = all_of_goal_at (Fits logic) logic.size query c.args.place made at c.requires.asked.writable.query_for.fits.formulas in
    let propositional = all_of_goal_at (λ f. has_quantifier f ≡ false) logic.size query c.args.place made at c.requires.asked.propositional in
    (omega arith, (omega arith, (omega arith, (omega arith, (fit, (propositional, c.requires.right))))))

pub put_heading-requires : goal.put_heading-requires
put_heading-requires g c =
    let logic = c.args.m.now in
    let query = c.args.query.now in
    let made = c.in_ok-goal.goal in
    let at : slice_get (goals_of logic.size query) c.args.place ≡ Some made = subst (λ (n : ℕ). slice_get (goals_of n query) c.args.place ≡ Some made) (sym c.operators-operators.ensures.size) c.in_ok-goal.ensures in
    (omega arith, (omega arith, subst (All (λ (item : SignedFormula). depth item.formula < 2 ^ 32)) (sym c.items.ensures.items) (goal_shallow logic query c.args.place made c.requires.asked at)))

pub put_built-requires : goal.put_built-requires
put_built-requires g c =
    let logic = c.args.m.now in
    let query = c.args.query.now in
    let made = c.in_ok-goal.goal in
    let at : slice_get (goals_of logic.size query) c.args.place ≡ Some made = subst (λ (n : ℕ). slice_get (goals_of n query) c.args.place ≡ Some made) (sym c.operators-operators.ensures.size) c.in_ok-goal.ensures in
    (omega arith, (omega arith, built_shallow g.row.N logic c.build.new.book made c.in_ok-built.built c.operators-operators.ensures.size (goal_shallow logic query c.args.place made c.requires.asked at) c.in_ok-built.ensures.built))

pub returns-clause-put : goal.returns-clause-put
returns-clause-put g c =
    let logic = c.args.m.now in
    let query = c.args.query.now in
    let made = c.in_ok-goal.goal in
    let at : slice_get (goals_of logic.size query) c.args.place ≡ Some made = subst (λ (n : ℕ). slice_get (goals_of n query) c.args.place ≡ Some made) (sym c.operators-operators.ensures.size) c.in_ok-goal.ensures in
    goal_put g.row.N logic c.build.new.book c.args.number query c.args.place c.is_closed.result c.args.into.now.items c.put_heading.new.into.items c.put_built.new.into.items made c.items.result.now c.in_ok-built.built at c.in_ok-built.ensures.built c.items.ensures.items c.in_ok-put_heading.ensures c.in_ok-put_built.ensures c.is_closed.ensures
