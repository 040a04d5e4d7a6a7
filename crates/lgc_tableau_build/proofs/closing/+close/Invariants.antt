-- Why the building ends, and the cases so far.
use Rattle.std.proofs.Common.{◌+◌, ◌*◌, take}
use Rattle.lgc_clauses.specs.Rules.{OperatorRule}
use Rattle.lgc_calculus.specs.RuleBook.{IsRightBook}
use Rattle.lgc_lemmas.specs.Steps.{IsGrown}
use Rattle.lgc_tableau_build.specs.Building.{AreMade, left_count}
use Rattle.lgc_tableau_build.proofs.closing.+close.Given as goal

abbrev pub decreases-close : goal.decreases-close
decreases-close g l = 2 * left_count l.branch.now.left + 1

abbrev pub decreases-close_cases : goal.decreases-close_cases
decreases-close_cases g l = 2 * left_count l.opened.now.rest + 2

abbrev pub invariant-close_cases-loop-addition : goal.invariant-close_cases-loop-addition
invariant-close_cases-loop-addition g l = record {
  made : AreMade l.m l.book l.formulas l.opened.rest l.branch.pairs (take l.addition-index l.additions) l.cases;
  rules : IsGrown OperatorRule l.fn.book l.book;
  right : IsRightBook l.m l.book;
}
