-- Words of private calls: the rows that causes tell, and which verdict accepts.
use Rattle.std.specs.Prelude.{◌≡◌, ℕ, ◌<◌, Bool, true, false, List, Some}
use Rattle.lgc_values.specs.Logic.{Logic}
use Rattle.lgc_clauses.specs.Rules.{rows_of}
use Rattle.lgc_sequents.specs.Lines.{at_position}
use Rattle.lgc_report.specs.Reports.{PlainNumbered}
use Rattle.lgc_check.specs.declared.verdict.Cause.{Cause}
use Rattle.lgc_check.specs.declared.verdict.Cause.TheVariants.{Inexact}
use Rattle.lgc_check.specs.declared.verdict.Verdict.{Verdict}
use Rattle.lgc_check.specs.declared.verdict.Verdict.TheVariants.{Accepted}

-- the rule at a position has this row
pub record IsRowAt (logic : Logic) (rules : List PlainNumbered) (position row : ℕ) : Type 0 where
  pub numbered : PlainNumbered
  pub stands : at_position rules position ≡ Some numbered
  pub within : row < rows_of logic numbered.rule.head

-- the row that a cause tells, if any, is one of the rule at the position
abbrev pub HasRow : Logic → List PlainNumbered → ℕ → Cause → Type 0
HasRow logic rules position (Inexact row) = IsRowAt logic rules position row
HasRow logic rules position cause = Unit {0}

abbrev pub is_accepted : Verdict → Bool
is_accepted Accepted = true
is_accepted verdict = false
