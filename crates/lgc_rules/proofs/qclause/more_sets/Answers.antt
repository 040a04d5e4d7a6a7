use Rattle.std.proofs.Common.{[], ◌∷◌, arith}
use Rattle.lgc_rules.specs.RuleReading.{more_sets_at}
use Rattle.lgc_rules.proofs.RuleReads.{next_set_reads}
use Rattle.lgc_tokens.proofs.Loops.{goes_on, closes, going_fails, going_ends}
use Rattle.lgc_rules.proofs.qclause.more_sets.Goals as goal

pub returns-in-Err-clause-gives : goal.returns-in-Err-clause-gives
unfolding more_sets_at
returns-in-Err-clause-gives g c = going_fails (next_set_reads g.row.N c.args.m.now) (λ sets. [] ∷ sets) _ _ _ _ _ c.loop-all-test.ensures c.in-Err.ensures.gives c.loop-all.invariant.so_far

pub returns-in-Some-clause-gives : goal.returns-in-Some-clause-gives
unfolding more_sets_at
returns-in-Some-clause-gives g c =
    let gives = rw c.in-Some.is at c.in-Ok.ensures.gives in
    closes (next_set_reads g.row.N c.args.m.now) (λ sets. [] ∷ sets) _ _ _ _ _ c.loop-all-test.ensures gives c.loop-all.invariant.so_far

pub loop-all-preserved : goal.loop-all-preserved
unfolding more_sets_at
loop-all-preserved g c = record {
  so_far =
      let gives = rw c.in_default.is at c.in-Ok.ensures.gives in
      goes_on (next_set_reads g.row.N c.args.m.now) (λ sets. [] ∷ sets) _ _ _ _ _ c.loop-all-test.ensures gives c.loop-all.invariant.so_far;
  rest = record { shorter = omega (arith, c.in-Ok.ensures.rest.shorter, c.loop-all.invariant.rest.shorter); inside = c.in-Ok.ensures.rest.inside };
}

pub returns-clause-gives : goal.returns-clause-gives
unfolding more_sets_at
returns-clause-gives g c = rw c.empty_set.ensures (going_ends (next_set_reads g.row.N c.args.m.now) (λ sets. [] ∷ sets) _ _ _ c.loop-all-test.ensures c.loop-all.invariant.so_far)
