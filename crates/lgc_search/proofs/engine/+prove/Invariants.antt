-- Why the search ends, and what it has while it goes through the clauses.
use Rattle.std.proofs.Common.{◌≡◌, ◌+◌, ◌*◌, take, []}
use Rattle.lgc_clauses.specs.Rules.{OperatorRule}
use Rattle.lgc_calculus.specs.RuleBook.{IsRightBook}
use Rattle.lgc_packed.specs.Packed.{weight_of, total}
use Rattle.lgc_lemmas.specs.Plain.{PlainLemma}
use Rattle.lgc_lemmas.specs.Steps.{AreSteps, IsGrown}
use Rattle.lgc_search.specs.Search.{weight, clauses_of, AreProved}
use Rattle.lgc_search.proofs.engine.+prove.Given as goal

abbrev pub decreases-prove : goal.decreases-prove
decreases-prove g l = 2 * weight_of weight l.goal.now

abbrev pub decreases-prove_premises : goal.decreases-prove_premises
decreases-prove_premises g l = 2 * (weight_of weight l.opened.now.rest + total weight l.opened.now.arguments) + 1

abbrev pub invariant-prove_premises-loop-i : goal.invariant-prove_premises-loop-i
invariant-prove_premises-loop-i g l =
    AreProved g.row.N l.lemmas l.opened.rest l.opened.arguments (take l.i (clauses_of l.fn.book l.number)) l.cited l.kept
    × IsGrown OperatorRule l.fn.book l.book × IsGrown PlainLemma l.fn.lemmas l.lemmas × IsRightBook l.m l.book × AreSteps l.m l.nodes l.book [] l.lemmas
