-- The goal is the one at its place, by the kind of the query.
use Rattle.std.proofs.lemmas.Result.{IfOk-weaker}
use Rattle.std.proofs.Common.{◌≡◌, ◌+◌, ◌∙◌, List, Some, length, slice_get}
use Rattle.lgc_values.specs.Logic.{arguments_at}
use Rattle.lgc_sequents.specs.Signed.{SignedFormula}
use Rattle.lgc_goals.specs.Goals.{mixed_goal, quasi_goal, goals_of}
use Rattle.lgc_goals.proofs.PlacedGoals.{mixed_placed, equation_placed, quasi_placed}
use Rattle.lgc_goals.proofs.goal.goal_at.Goals as goal

pub returns-in-Mixed : goal.returns-in-Mixed
returns-in-Mixed g c =
    let n = g.row.N in
    let q = c.in-Mixed in
    IfOk-weaker c.goal_of_mixed.result (λ (made : List SignedFormula). made ≡ mixed_goal n c.of_mask.result c.of_mask-in-Mixed.result c.items.result.now c.items-in-Mixed.result.now) (λ made. slice_get (goals_of n c.args.q.now) c.args.place ≡ Some made)
    (λ made. mixed_placed n q.given q.wanted q.premises q.conclusions c.items.result.now c.items-in-Mixed.result.now c.args.q.now c.args.place c.of_mask.result c.of_mask-in-Mixed.result made q.is c.requires.within c.of_mask.ensures c.of_mask-in-Mixed.ensures c.items.ensures c.items-in-Mixed.ensures)
    c.goal_of_mixed.ensures

pub returns-in-Equation : goal.returns-in-Equation
returns-in-Equation g c =
    let n = g.row.N in
    let none = c.items-in-Equation-2.result.now in
    IfOk-weaker c.goal_of_quasi.result (λ (made : List SignedFormula). made ≡ quasi_goal n none c.in-Equation.pair (arguments_at n (length none + 1) c.args.place)) (λ made. slice_get (goals_of n c.args.q.now) c.args.place ≡ Some made)
    (λ made. equation_placed n c.in-Equation.pair none c.args.q.now c.args.place made c.in-Equation.is c.requires.within (c.items-in-Equation-2.ensures ∙ c.new.ensures))
    c.goal_of_quasi.ensures

pub returns-in-Quasi : goal.returns-in-Quasi
returns-in-Quasi g c =
    let n = g.row.N in
    let items = c.items-in-Quasi.result.now in
    IfOk-weaker c.goal_of_quasi-in-Quasi.result (λ (made : List SignedFormula). made ≡ quasi_goal n items c.in-Quasi.conclusion (arguments_at n (length items + 1) c.args.place)) (λ made. slice_get (goals_of n c.args.q.now) c.args.place ≡ Some made)
    (λ made. quasi_placed n c.in-Quasi.premises items c.in-Quasi.conclusion c.args.q.now c.args.place made c.in-Quasi.is c.requires.within c.items-in-Quasi.ensures)
    c.goal_of_quasi-in-Quasi.ensures
