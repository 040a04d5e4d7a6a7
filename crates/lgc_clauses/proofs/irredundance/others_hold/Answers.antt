use Rattle.std.proofs.Common.{sym, ◌∙◌, arith, []}
use Rattle.lgc_clauses.specs.Kinds.{plain_rule}
use Rattle.lgc_clauses.specs.Rules.{is_true_at}
use Rattle.lgc_clauses.proofs.Changes.{true_elsewhere, false_elsewhere}
use Rattle.lgc_clauses.proofs.irredundance.others_hold.Goals as goal

pub returns-then-not-clause_holds : goal.returns-then-not-clause_holds
returns-then-not-clause_holds g c =
    let rule = plain_rule c.args.rule.now in
    sym (false_elsewhere (λ sets. is_true_at c.args.m.now rule.head sets c.args.row) rule.clauses c.args.i c.loop-k.k [] (omega arith) c.if-k-i.true (sym c.clause_holds.ensures ∙ c.if-not-clause_holds.true))

pub returns : goal.returns
returns g c =
    let rule = plain_rule c.args.rule.now in
    sym (true_elsewhere (λ sets. is_true_at c.args.m.now rule.head sets c.args.row) rule.clauses c.args.i [] (λ k lt ne. c.loop-k.invariant k (omega (arith, lt)) ne))
