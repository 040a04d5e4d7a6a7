-- Which reports can be read from their text: their formulas, terms and queries can, and no sequent and no list of cited lines is empty.
use Rattle.std.specs.Prelude.{◌≢◌, ℕ, false, List, [], All}
use Rattle.lgc_values.specs.Logic.{Logic}
use Rattle.lgc_syntax.specs.declared.formula.Formula.{Formula}
use Rattle.lgc_sequents.specs.Lines.{PlainLine, formulas_of, premises_of}
use Rattle.lgc_formulas.specs.declared.formula.TheConstants.{MOST_NODES}
use Rattle.lgc_formulas.specs.FormulaTexts.{text_setting}
use Rattle.lgc_formulas.specs.Writable.{IsWritable, IsWritableTerm}
use Rattle.lgc_queries.specs.WritableQueries.{IsWritableQuery}
use Rattle.lgc_report.specs.declared.report.Evidence.{Evidence}
use Rattle.lgc_report.specs.declared.report.Evidence.TheVariants.{Proved, Refuted, Unfinished}
use Rattle.lgc_report.specs.Reports.{PlainClaim, answer, holds, PlainReport, FitsReport}

-- a formula can be read from its text
abbrev pub IsReadable : Logic → Formula → Type 0
IsReadable logic f = IsWritable logic false MOST_NODES f

-- so can a line
pub record IsWritableLine (logic : Logic) (line : PlainLine) : Type 0 where
  pub some : line.sequent ≢ []
  pub formulas : All (IsReadable logic) (formulas_of line)
  pub terms : All (λ cited. All (IsWritableTerm false MOST_NODES) cited.terms) (premises_of line.reason)

abbrev pub IsWritableEvidence : Logic → Evidence → Type 0
IsWritableEvidence logic (Proved cited) = cited ≢ []
IsWritableEvidence logic (Refuted entries) = All (λ entry. IsReadable logic entry.0) entries
IsWritableEvidence logic (Unfinished cited) = cited ≢ []

abbrev pub IsWritableClaim : Logic → PlainClaim → Type 0
IsWritableClaim logic (answer number query evidence) = IsWritableQuery (text_setting logic) MOST_NODES query × IsWritableEvidence logic evidence
IsWritableClaim logic (holds number sequent line) = (sequent ≢ []) × All (λ item. IsReadable logic item.formula) sequent

pub record IsWritableReport (logic : Logic) (report : PlainReport) : Type 0 where
  pub fits : FitsReport logic report
  pub lines : All (IsWritableLine logic) report.lines
  pub claims : All (IsWritableClaim logic) report.claims
