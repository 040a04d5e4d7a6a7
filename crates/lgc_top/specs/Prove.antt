-- Query files, and the reports that answer them.
use Rattle.std.specs.Prelude.{ℕ, Bool, List, Result, Ok, Err}
use Rattle.lgc_values.specs.Logic.{Logic}
use Rattle.lgc_syntax.specs.declared.fault.InputFault.{InputFault}
use Rattle.lgc_syntax.specs.declared.fault.InputFault.TheVariants.{Fault, Memory}
use Rattle.lgc_meaning.specs.declared.query.Query.{Query}
use Rattle.lgc_queries.specs.QueryFile.{FileGives}
use Rattle.lgc_prove.specs.declared.answer_text.Answered.{Answered}
use Rattle.lgc_prove.specs.AnswerText.{IsAnswerText}

-- what the bytes of a query file give for a logic: its queries, or its first fault
abbrev pub QueriesGiven : Logic → List ℕ → Result (List Query) InputFault → Type 0
QueriesGiven logic bytes told = FileGives logic bytes told

-- The bytes are those of a query file, and the text is that of a report that answers its queries. `all_proved` tells whether every valuation
-- satisfies every query.
pub record IsReportOn (logic : Logic) (all_proved : Bool) (bytes text : List ℕ) : Type 0 where
  pub queries : List Query
  pub given : QueriesGiven logic bytes (Ok queries)
  pub answers : IsAnswerText logic queries all_proved text

-- what the reader of a query file refuses for: the file's first fault, or want of memory
abbrev pub QueriesRefused : Logic → List ℕ → InputFault → Type 0
QueriesRefused logic bytes Memory = Unit {0}
QueriesRefused logic bytes (Fault number offset) = QueriesGiven logic bytes (Err (Fault number offset))

-- the text of a report on the queries of a query file, and whether all of them are proved; or the file's first fault
abbrev pub ReportsOnBytes : Logic → List ℕ → Result Answered InputFault → Type 0
ReportsOnBytes logic bytes (Ok answered) = IsReportOn logic answered.all_proved bytes answered.text.items
ReportsOnBytes logic bytes (Err fault) = QueriesRefused logic bytes fault
