-- What a report's bytes give, as a function. What it computes is the one answer that ReportFile allows.
use Rattle.std.specs.Prelude.{ℕ, List, Result}
use Rattle.lgc_grammar.specs.Reading.{whole}
use Rattle.lgc_values.specs.Logic.{Logic}
use Rattle.lgc_syntax.specs.declared.fault.InputFault.{InputFault}
use Rattle.lgc_inputs.specs.Told.{text_told}
use Rattle.lgc_formulas.specs.FormulaTexts.{text_setting}
use Rattle.lgc_report.specs.declared.report.Report.{Report}
use Rattle.lgc_report_reader.specs.declared.report.TheConstants.{LONGEST_REPORT}
use Rattle.lgc_report_reader.specs.Reported.{reported_all, reported_place}
use Rattle.lgc_report_reader.specs.ReportReading.{report_at}

-- the report of the bytes, or its first fault
abbrev pub report_read : (n : ℕ) → Logic → List ℕ → Result (Report n) InputFault
report_read n logic bytes = text_told reported_place (reported_all (text_setting logic) bytes) (whole (report_at n (text_setting logic))) LONGEST_REPORT bytes
