-- A needed clause is kept, and another one isn't.
use Rattle.std.proofs.Common.{◌∙◌, ◌++◌, ◌∷◌, [], sym, ap, not}
use Rattle.std.specs.Prelude.{filter}
use Rattle.lgc_clause_sets.specs.AtomClauses.{subsumes}
use Rattle.lgc_clause_sets.proofs.ReductionLaws.{skip_clause, need_clause}
use Rattle.lgc_clause_sets.proofs.set.ClauseSet.add.Goals as goal

pub returns-in_ok-reserve-clause-ok : goal.returns-in_ok-reserve-clause-ok
returns-in_ok-reserve-clause-ok g c =
    need_clause g.row.N c.args.self.now c.push_reserved.new.self.items c.args.row (sym c.needs.ensures ∙ c.if-needs.true)
    (c.push_reserved.ensures.items ∙ ap (λ kept. kept ++ c.args.row ∷ []) (c.take_out_subsumed.ensures.items ∙ ap (filter (λ d. not (subsumes c.args.row d))) (c.reserve.ensures.items ∙ c.self.view_is)))

pub returns-else-needs-clause-ok : goal.returns-else-needs-clause-ok
returns-else-needs-clause-ok g c = skip_clause g.row.N c.args.self.now c.args.row (sym c.needs.ensures ∙ c.if-needs.false)
