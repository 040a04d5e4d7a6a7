use Rattle.std.proofs.Common.{arith}
use Rattle.std.proofs.lemmas.Result.{err_from_is_err_and}
use Rattle.lgc_tokens.proofs.Loops.{grows, growth_fails, growth_ends}
use Rattle.lgc_formulas.specs.Setting.{setting_of}
use Rattle.lgc_report_reader.specs.ReportReading.{more_items_at}
use Rattle.lgc_report_reader.proofs.ReportReads.{next_item_reads}
use Rattle.lgc_report_reader.proofs.line.more_items.Goals as goal

pub returns-in_err-rest-clause-gives : goal.returns-in_err-rest-clause-gives
unfolding more_items_at
returns-in_err-rest-clause-gives g c =
    let p = err_from_is_err_and c.from_residual.result c.from_residual.ensures.1 in
    rw (p.1, p.2) (growth_fails (next_item_reads g.row.N (setting_of c.args.c.now)) _ _ _ _ _ c.loop-alloc-test.ensures c.in_err-rest.ensures.gives c.loop-alloc.invariant.so_far)

pub loop-alloc-preserved : goal.loop-alloc-preserved
unfolding more_items_at
loop-alloc-preserved g c = record {
  so_far = grows (next_item_reads g.row.N (setting_of c.args.c.now)) _ _ _ _ _ c.loop-alloc-test.ensures c.in_ok-rest.ensures.gives c.loop-alloc.invariant.so_far;
  rest = record { shorter = omega (arith, c.in_ok-rest.ensures.rest.shorter, c.loop-alloc.invariant.rest.shorter); inside = c.in_ok-rest.ensures.rest.inside };
}

pub returns-clause-gives : goal.returns-clause-gives
unfolding more_items_at
returns-clause-gives g c = growth_ends (next_item_reads g.row.N (setting_of c.args.c.now)) _ _ _ c.loop-alloc-test.ensures c.loop-alloc.invariant.so_far
