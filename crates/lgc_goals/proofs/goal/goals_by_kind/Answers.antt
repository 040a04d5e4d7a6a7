-- The only goal of a mixed entailment.
use Rattle.std.proofs.Common.{[], ◌∷◌, ◌++◌, sym, ◌∙◌, ap}
use Rattle.lgc_goals.specs.Goals.{mixed_goal, goals_of}
use Rattle.lgc_goals.proofs.goal.goals_by_kind.Goals as goal

pub returns-in_ok-push-in-Mixed : goal.returns-in_ok-push-in-Mixed
returns-in_ok-push-in-Mixed g c =
    c.in_ok-push-in-Mixed.ensures.ok
    ∙ (λ k. c.new-goals.ensures k ++ c.in_ok-goal_of_mixed-in-Mixed.ensures k ∷ [])
    ∙ (λ k. mixed_goal g.row.N (c.of_mask.ensures k) (c.of_mask-in-Mixed.ensures k) (c.items.ensures k) (c.items-in-Mixed.ensures k) ∷ [])
    ∙ sym (ap (goals_of g.row.N) c.in-Mixed.is)
