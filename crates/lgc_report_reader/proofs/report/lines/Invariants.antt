use Rattle.std.proofs.Common.{◌≡◌, length}
use Rattle.lgc_grammar.specs.Reading.{growing_at}
use Rattle.lgc_tokens.specs.declared.class.Class.TheVariants.{LineWord}
use Rattle.lgc_tokens.specs.Spelled.{IsRest}
use Rattle.lgc_formulas.specs.Setting.{setting_of}
use Rattle.lgc_report_reader.specs.Reported.{reports, is}
use Rattle.lgc_report_reader.specs.ReportReading.{next_line_at, lines_at}
use Rattle.lgc_report_reader.proofs.report.lines.Given as goal

abbrev pub invariant-loop-alloc : goal.invariant-loop-alloc
invariant-loop-alloc g l = record {
  so_far : growing_at (is LineWord) (next_line_at g.row.N (setting_of l.c)) l.lines (reports l.c l.rest) ≡ lines_at g.row.N (setting_of l.c) (reports l.c l.tokens);
  rest : IsRest l.c.bytes.now l.tokens l.rest;
}

abbrev pub decreases-loop-alloc : goal.decreases-loop-alloc
decreases-loop-alloc g l = length l.rest
