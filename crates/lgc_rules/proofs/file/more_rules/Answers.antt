use Rattle.std.proofs.Common.{ap, length, refl, arith}
use Rattle.std.proofs.lemmas.Result.{err_from_is_err_and}
use Rattle.lgc_rules.specs.RuleReading.{rules_at}
use Rattle.lgc_rules.proofs.RuleReads.{next_rule_reads}
use Rattle.lgc_tokens.proofs.Loops.{grows, growth_fails, growth_ends}
use Rattle.lgc_rules.proofs.file.more_rules.Goals as goal

pub loop-alloc-init : goal.loop-alloc-init
unfolding rules_at
loop-alloc-init g c = record {
  so_far = rw c.new-rules.ensures refl;
  few = omega (arith, ap length c.new-rules.ensures);
  rest = record { shorter = omega arith; inside = c.requires.inside };
}

pub returns-in_err-rest : goal.returns-in_err-rest
returns-in_err-rest g c =
    let p = err_from_is_err_and c.from_residual.result c.from_residual.ensures.1 in
    record { gives = rw (p.1, p.2) (growth_fails (next_rule_reads g.row.N c.args.m.now) _ _ _ _ _ c.loop-alloc-test.ensures c.in_err-rest.ensures.gives c.loop-alloc.invariant.so_far) }

pub loop-alloc-preserved : goal.loop-alloc-preserved
loop-alloc-preserved g c = record {
  so_far = grows (next_rule_reads g.row.N c.args.m.now) _ _ _ _ _ c.loop-alloc-test.ensures c.in_ok-rest.ensures.gives c.loop-alloc.invariant.so_far;
  few = omega (arith, c.in_ok-rest.ensures.one, c.in_ok-rest.ensures.rest.shorter, c.loop-alloc.invariant.few);
  rest = record { shorter = omega (arith, c.in_ok-rest.ensures.rest.shorter, c.loop-alloc.invariant.rest.shorter); inside = c.in_ok-rest.ensures.rest.inside };
}

pub returns : goal.returns
returns g c = record { gives = growth_ends (next_rule_reads g.row.N c.args.m.now) _ _ _ c.loop-alloc-test.ensures c.loop-alloc.invariant.so_far }
