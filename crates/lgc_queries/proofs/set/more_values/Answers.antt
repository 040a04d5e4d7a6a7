use Rattle.std.proofs.Common.{arith}
use Rattle.std.proofs.lemmas.Result.{err_from_is_err_and}
use Rattle.lgc_tokens.proofs.Loops.{grows, growth_fails, growth_ends}
use Rattle.lgc_queries.specs.QueryReading.{more_values_at}
use Rattle.lgc_queries.proofs.QueryReads.{next_value_reads}
use Rattle.lgc_queries.proofs.set.more_values.Goals as goal

pub returns-in_err-rest-clause-gives : goal.returns-in_err-rest-clause-gives
unfolding more_values_at
returns-in_err-rest-clause-gives g c =
    let p = err_from_is_err_and c.from_residual.result c.from_residual.ensures.1 in
    rw (p.1, p.2) (growth_fails (next_value_reads c.args.m.now) _ _ _ _ _ c.loop-set-test.ensures c.in_err-rest.ensures.gives c.loop-set.invariant.so_far)

pub loop-set-preserved : goal.loop-set-preserved
unfolding more_values_at
loop-set-preserved g c = record {
  so_far = grows (next_value_reads c.args.m.now) _ _ _ _ _ c.loop-set-test.ensures c.in_ok-rest.ensures.gives c.loop-set.invariant.so_far;
  rest = record { shorter = omega (arith, c.in_ok-rest.ensures.rest.shorter, c.loop-set.invariant.rest.shorter); inside = c.in_ok-rest.ensures.rest.inside };
}

pub returns-clause-gives : goal.returns-clause-gives
unfolding more_values_at
returns-clause-gives g c = growth_ends (next_value_reads c.args.m.now) _ _ _ c.loop-set-test.ensures c.loop-set.invariant.so_far
