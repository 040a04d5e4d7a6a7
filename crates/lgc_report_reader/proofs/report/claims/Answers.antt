use Rattle.std.proofs.Common.{refl, arith}
use Rattle.std.proofs.lemmas.Result.{err_from_is_err_and}
use Rattle.lgc_tokens.proofs.Loops.{grows, growth_fails, growth_ends}
use Rattle.lgc_formulas.specs.Setting.{setting_of}
use Rattle.lgc_report_reader.specs.ReportReading.{claims_at}
use Rattle.lgc_report_reader.proofs.ReportReads.{next_claim_reads}
use Rattle.lgc_report_reader.proofs.report.claims.Goals as goal

pub loop-alloc-init : goal.loop-alloc-init
unfolding claims_at
loop-alloc-init g c = record {
  so_far = rw c.new-claims.ensures refl;
  rest = record { shorter = omega arith; inside = c.requires };
}

pub returns-in_err-rest-clause-gives : goal.returns-in_err-rest-clause-gives
returns-in_err-rest-clause-gives g c =
    let p = err_from_is_err_and c.from_residual.result c.from_residual.ensures.1 in
    rw (p.1, p.2) (growth_fails (next_claim_reads g.row.N (setting_of c.args.c.now)) _ _ _ _ _ c.loop-alloc-test.ensures c.in_err-rest.ensures.gives c.loop-alloc.invariant.so_far)

pub loop-alloc-preserved : goal.loop-alloc-preserved
loop-alloc-preserved g c = record {
  so_far = grows (next_claim_reads g.row.N (setting_of c.args.c.now)) _ _ _ _ _ c.loop-alloc-test.ensures c.in_ok-rest.ensures.gives c.loop-alloc.invariant.so_far;
  rest = record { shorter = omega (arith, c.in_ok-rest.ensures.rest.shorter, c.loop-alloc.invariant.rest.shorter); inside = c.in_ok-rest.ensures.rest.inside };
}

pub returns-clause-gives : goal.returns-clause-gives
returns-clause-gives g c = growth_ends (next_claim_reads g.row.N (setting_of c.args.c.now)) _ _ _ c.loop-alloc-test.ensures c.loop-alloc.invariant.so_far
