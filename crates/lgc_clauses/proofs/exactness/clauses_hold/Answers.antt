use Rattle.std.proofs.Common.{sym, arith, []}
use Rattle.lgc_clauses.specs.Kinds.{plain_rule}
use Rattle.lgc_clauses.specs.Rules.{is_true_at}
use Rattle.lgc_clauses.proofs.Changes.{true_everywhere}
use Rattle.lgc_clauses.proofs.exactness.clauses_hold.Goals as goal

pub returns : goal.returns
returns g c =
    let rule = plain_rule c.args.rule.now in
    sym (true_everywhere (λ sets. is_true_at c.args.m.now rule.head sets c.args.row) rule.clauses [] (λ k lt. c.loop-i.invariant k (omega (arith, lt))))
