use Rattle.std.proofs.Common.{arith}
use Rattle.std.proofs.lemmas.Result.{err_from_is_err_and}
use Rattle.lgc_tokens.proofs.Loops.{grows, growth_fails, growth_ends}
use Rattle.lgc_formulas.specs.Setting.{setting_of}
use Rattle.lgc_queries.specs.QueryReading.{more_equations_at}
use Rattle.lgc_queries.proofs.QueryReads.{comma_equation_reads}
use Rattle.lgc_queries.proofs.equation.more_equations.Goals as goal

pub returns-in_err-next-clause-gives : goal.returns-in_err-next-clause-gives
unfolding more_equations_at
returns-in_err-next-clause-gives g c =
    let p = err_from_is_err_and c.from_residual.result c.from_residual.ensures.1 in
    rw (p.1, p.2) (growth_fails (comma_equation_reads (setting_of c.args.c.now)) _ _ _ _ _ c.loop-alloc-test.ensures c.in_err-next.ensures.gives c.loop-alloc.invariant.so_far)

pub loop-alloc-preserved : goal.loop-alloc-preserved
unfolding more_equations_at
loop-alloc-preserved g c = record {
  so_far = grows (comma_equation_reads (setting_of c.args.c.now)) _ _ _ _ _ c.loop-alloc-test.ensures c.in_ok-next.ensures.gives c.loop-alloc.invariant.so_far;
  rest = record { shorter = omega (arith, c.in_ok-next.ensures.rest.shorter, c.loop-alloc.invariant.rest.shorter); inside = c.in_ok-next.ensures.rest.inside };
}

pub returns-clause-gives : goal.returns-clause-gives
unfolding more_equations_at
returns-clause-gives g c = growth_ends (comma_equation_reads (setting_of c.args.c.now)) _ _ _ c.loop-alloc-test.ensures c.loop-alloc.invariant.so_far
