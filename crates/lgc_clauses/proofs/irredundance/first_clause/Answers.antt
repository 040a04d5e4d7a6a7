use Rattle.std.proofs.Common.{◌<◌, arith, below_more}
use Rattle.std.proofs.lemmas.Bool.{iff_false}
use Rattle.lgc_clauses.specs.Kinds.{plain_rule}
use Rattle.lgc_clauses.specs.Irredundance.{IsRedundantClause}
use Rattle.lgc_clauses.proofs.irredundance.first_clause.Goals as goal

pub loop-i-preserved : goal.loop-i-preserved
loop-i-preserved g c =
    below_more (λ k. IsRedundantClause c.args.m.now (plain_rule c.args.rule.now) k → ⊥) c.loop-i.i c.loop-i.invariant
    (λ here. iff_false c.exact_without_clause.ensures c.if-exact_without_clause.false here.exact)

pub returns : goal.returns
returns g c = λ k here.
    let below : k < c.loop-i.i = omega (arith, here.clause) in
    c.loop-i.invariant k below here
