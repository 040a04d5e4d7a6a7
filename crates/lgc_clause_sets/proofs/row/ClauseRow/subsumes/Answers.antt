-- A clause that lacks a bit of the other's mark isn't subsumed by it.
use Rattle.std.proofs.Common.{◌∙◌, sym}
use Rattle.lgc_clause_sets.specs.AtomClauses.{subsumes}
use Rattle.lgc_clause_sets.proofs.row.ClauseRow.subsumes.Goals as goal

pub returns-else-may_subsume : goal.returns-else-may_subsume
returns-else-may_subsume g c =
    c.if-may_subsume.false
    ∙ sym (c.may_subsume.ensures c.if-may_subsume.false c.self.inside.sets c.other.inside.sets c.self.invariant c.other.invariant)
    ∙ (λ i. subsumes (c.self.view_is i) (c.other.view_is i))
