use Rattle.std.proofs.Common.{◌≡◌, length}
use Rattle.lgc_tokens.specs.Spelled.{IsRest}
use Rattle.lgc_report_reader.specs.Reported.{reports}
use Rattle.lgc_report_reader.specs.ReportReading.{more_positions_at}
use Rattle.lgc_report_reader.proofs.cited.more_positions.Given as goal

abbrev pub invariant-loop-positions : goal.invariant-loop-positions
invariant-loop-positions g l = record {
  so_far : more_positions_at l.positions (reports l.c l.rest) ≡ more_positions_at l.fn.positions (reports l.c l.tokens);
  rest : IsRest l.c.bytes.now l.tokens l.rest;
}

abbrev pub decreases-loop-positions : goal.decreases-loop-positions
decreases-loop-positions g l = length l.rest
