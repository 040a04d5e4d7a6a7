use Rattle.std.proofs.Common.{arith}
use Rattle.std.proofs.lemmas.Result.{err_from_is_err_and}
use Rattle.lgc_rules.specs.RuleReading.{more_literals_at}
use Rattle.lgc_rules.proofs.RuleReads.{next_literal_reads}
use Rattle.lgc_tokens.proofs.Loops.{grows, growth_fails, growth_ends}
use Rattle.lgc_rules.proofs.clause.more_literals.Goals as goal

pub returns-in_err-rest-clause-gives : goal.returns-in_err-rest-clause-gives
unfolding more_literals_at
returns-in_err-rest-clause-gives g c =
    let p = err_from_is_err_and c.from_residual.result c.from_residual.ensures.1 in
    rw (p.1, p.2) (growth_fails (next_literal_reads g.row.N c.args.m.now c.args.arity) _ _ _ _ _ c.loop-sets-test.ensures c.in_err-rest.ensures.gives c.loop-sets.invariant.so_far)

pub loop-sets-preserved : goal.loop-sets-preserved
unfolding more_literals_at
loop-sets-preserved g c = record {
  so_far = grows (next_literal_reads g.row.N c.args.m.now c.args.arity) _ _ _ _ _ c.loop-sets-test.ensures c.in_ok-rest.ensures.gives c.loop-sets.invariant.so_far;
  few = c.in_ok-rest.ensures.few;
  rest = record { shorter = omega (arith, c.in_ok-rest.ensures.rest.shorter, c.loop-sets.invariant.rest.shorter); inside = c.in_ok-rest.ensures.rest.inside };
}

pub returns-clause-gives : goal.returns-clause-gives
unfolding more_literals_at
returns-clause-gives g c = growth_ends (next_literal_reads g.row.N c.args.m.now c.args.arity) _ _ _ c.loop-sets-test.ensures c.loop-sets.invariant.so_far
