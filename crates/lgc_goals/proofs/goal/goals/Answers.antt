-- How many goals there are, and that the query is satisfied exactly where each of them is true.
use Rattle.std.proofs.Common.{◌≡◌, List, ◌∙◌, ap, length}
use Rattle.std.proofs.lemmas.Result.{IfOk-weaker}
use Rattle.lgc_sequents.specs.Signed.{SignedFormula}
use Rattle.lgc_goals.specs.Goals.{goal_count, goals_of}
use Rattle.lgc_goals.specs.Truth.{Agree, AgreeUnderValuations, AgreeInStructures}
use Rattle.lgc_goals.proofs.Truth.{agree, agree_under_valuations, agree_in_structures, length-goals_of}
use Rattle.lgc_goals.proofs.goal.goals.Goals as goal

pub returns-clause-count : goal.returns-clause-count
returns-clause-count g c =
    IfOk-weaker c.goals_by_kind.result (λ (goals : List (List SignedFormula)). goals ≡ goals_of g.row.N c.args.q.now) (λ goals. length goals ≡ goal_count g.row.N c.args.q.now)
    (λ goals same. ap length same ∙ length-goals_of g.row.N c.args.q.now) c.goals_by_kind.ensures

pub returns-clause-truth : goal.returns-clause-truth
returns-clause-truth g c =
    IfOk-weaker c.goals_by_kind.result (λ (goals : List (List SignedFormula)). goals ≡ goals_of g.row.N c.args.q.now) (Agree g.row.N c.args.q.now)
    (agree c.args.m.now c.operators-operators.ensures.logic g.row.N c.operators-operators.ensures.size c.args.q.now) c.goals_by_kind.ensures

pub returns-clause-valuations : goal.returns-clause-valuations
returns-clause-valuations g c =
    IfOk-weaker c.goals_by_kind.result (λ (goals : List (List SignedFormula)). goals ≡ goals_of g.row.N c.args.q.now) (AgreeUnderValuations c.args.m.now c.args.q.now)
    (agree_under_valuations c.args.m.now c.operators-operators.ensures.logic g.row.N c.operators-operators.ensures.size c.args.q.now) c.goals_by_kind.ensures

pub returns-clause-structures : goal.returns-clause-structures
returns-clause-structures g c =
    IfOk-weaker c.goals_by_kind.result (λ (goals : List (List SignedFormula)). goals ≡ goals_of g.row.N c.args.q.now) (AgreeInStructures c.args.m.now c.args.q.now)
    (agree_in_structures c.args.m.now c.operators-operators.ensures.logic g.row.N c.operators-operators.ensures.size c.args.q.now) c.goals_by_kind.ensures
