use Rattle.std.proofs.Common.{arith}
use Rattle.std.proofs.lemmas.Result.{err_from_is_err_and}
use Rattle.lgc_tokens.proofs.Loops.{grows, growth_fails, growth_ends}
use Rattle.lgc_report_reader.specs.ReportReading.{more_positions_at}
use Rattle.lgc_report_reader.proofs.ReportReads.{next_position_reads}
use Rattle.lgc_report_reader.proofs.cited.more_positions.Goals as goal

pub returns-in_err-rest-clause-gives : goal.returns-in_err-rest-clause-gives
unfolding more_positions_at
returns-in_err-rest-clause-gives g c =
    let p = err_from_is_err_and c.from_residual.result c.from_residual.ensures.1 in
    rw (p.1, p.2) (growth_fails next_position_reads _ _ _ _ _ c.loop-positions-test.ensures c.in_err-rest.ensures.gives c.loop-positions.invariant.so_far)

pub loop-positions-preserved : goal.loop-positions-preserved
unfolding more_positions_at
loop-positions-preserved g c = record {
  so_far = grows next_position_reads _ _ _ _ _ c.loop-positions-test.ensures c.in_ok-rest.ensures.gives c.loop-positions.invariant.so_far;
  rest = record { shorter = omega (arith, c.in_ok-rest.ensures.rest.shorter, c.loop-positions.invariant.rest.shorter); inside = c.in_ok-rest.ensures.rest.inside };
}

pub returns-clause-gives : goal.returns-clause-gives
unfolding more_positions_at
returns-clause-gives g c = growth_ends next_position_reads _ _ _ c.loop-positions-test.ensures c.loop-positions.invariant.so_far
