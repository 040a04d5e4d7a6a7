-- One join more is added.
use Rattle.std.proofs.Common.{map, subst}
use Rattle.std.proofs.lemmas.List.{take_all}
use Rattle.lgc_clause_sets.specs.AtomClauses.{joined}
use Rattle.lgc_clause_sets.specs.Reductions.{Reduces}
use Rattle.lgc_clause_sets.proofs.ReductionLaws.{reduces_more}
use Rattle.lgc_clause_sets.proofs.set.ClauseSet.add_joined.Goals as goal

pub loop-other-preserved : goal.loop-other-preserved
loop-other-preserved g c =
    reduces_more g.row.N (joined g.row.N c.args.row.now) c.args.others.now c.loop-other.other-index c.other-item.result c.in_ok-joined.field-0 c.args.self.now c.loop-other.self c.add.new.self c.loop-other-test.true c.other-item.is
    c.in_ok-joined.ensures c.loop-other.invariant c.in_ok-add.ensures.ok

pub returns : goal.returns
returns g c = subst (λ l. Reduces g.row.N (map (joined g.row.N c.args.row.now) l) c.args.self.now c.loop-other.self) (take_all c.loop-other.other-index c.args.others.now c.loop-other-test.false) c.loop-other.invariant
