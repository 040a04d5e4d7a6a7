-- The goal at one tuple more.
use Rattle.std.proofs.Common.{ℕ, ◌+◌, [], ◌∷◌, ◌++◌, length, sym, ◌∙◌, arith}
use Rattle.std.proofs.lemmas.List.FromFn.{map-range_with_len_more}
use Rattle.lgc_values.specs.Logic.{arguments_at}
use Rattle.lgc_goals.specs.Goals.{quasi_goal}
use Rattle.lgc_goals.proofs.goal.goals_of_quasi.Goals as goal

pub loop-tuple-preserved : goal.loop-tuple-preserved
loop-tuple-preserved g c =
    let goal_at = λ (i : ℕ). quasi_goal g.row.N c.args.premises.now c.args.conclusion.now (arguments_at g.row.N (length c.args.premises.now + 1) i) in
    c.in_ok-push.ensures.ok
    ∙ (λ k. c.loop-tuple.invariant k ++ c.in_ok-goal_of_quasi.ensures k ∷ [])
    ∙ sym (map-range_with_len_more goal_at 0 c.loop-tuple.tuple c.loop-tuple.tuple (omega arith))
