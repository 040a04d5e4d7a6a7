-- The goals before are put.
use Rattle.std.proofs.Common.{take}
use Rattle.lgc_clauses.specs.Rules.{OperatorRule}
use Rattle.lgc_calculus.specs.RuleBook.{IsRightBook}
use Rattle.lgc_goals.specs.Goals.{goals_of}
use Rattle.lgc_lemmas.specs.Steps.{IsGrown}
use Rattle.lgc_tableaux.specs.Work.{AreGoalsPut}
use Rattle.lgc_tableaux.proofs.tableaux.put_query.Given as goal

abbrev pub invariant-loop-place : goal.invariant-loop-place
invariant-loop-place g l = record {
  put : AreGoalsPut g.row.N l.m l.book l.number (take l.place (goals_of l.m.size l.query)) l.all_closed l.fn.into.items l.into.items;
  grown : IsGrown OperatorRule l.fn.book l.book;
  right : IsRightBook l.m l.book;
}
