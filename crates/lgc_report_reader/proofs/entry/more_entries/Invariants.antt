use Rattle.std.proofs.Common.{◌≡◌, length}
use Rattle.lgc_tokens.specs.Spelled.{IsRest}
use Rattle.lgc_formulas.specs.Setting.{setting_of}
use Rattle.lgc_report_reader.specs.Reported.{reports}
use Rattle.lgc_report_reader.specs.ReportReading.{more_entries_at}
use Rattle.lgc_report_reader.proofs.entry.more_entries.Given as goal

abbrev pub invariant-loop-alloc : goal.invariant-loop-alloc
invariant-loop-alloc g l = record {
  so_far : more_entries_at g.row.N (setting_of l.c) l.entries (reports l.c l.rest) ≡ more_entries_at g.row.N (setting_of l.c) l.fn.entries (reports l.c l.tokens);
  rest : IsRest l.c.bytes.now l.tokens l.rest;
}

abbrev pub decreases-loop-alloc : goal.decreases-loop-alloc
decreases-loop-alloc g l = length l.rest
