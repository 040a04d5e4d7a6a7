-- The joins of one clause more.
use Rattle.std.proofs.Common.{◌≡◌, ◌∙◌, ◌<◌, length, get_or, List, ℕ, map, ap, subst}
use Rattle.lgc_clause_sets.specs.AtomClauses.{joined}
use Rattle.lgc_clause_sets.specs.Reductions.{Reduces}
use Rattle.lgc_clause_sets.proofs.ReductionLaws.{products_more}
use Rattle.lgc_clause_sets.proofs.set.ClauseSet.products.Goals as goal

pub loop-row-preserved : goal.loop-row-preserved
loop-row-preserved g c =
    let rows : c.deref-row-items.result.now ≡ c.args.self.now = c.deref-row-items.ensures.value ∙ c.self.view_is in
    products_more g.row.N c.args.self.now c.args.others.now c.loop-row.row-index c.row-item.result c.loop-row.kept c.add_joined.new.self
    (subst (λ (l : List (List (List ℕ))). c.loop-row.row-index < length l) rows c.loop-row-test.true) (c.row-item.is ∙ ap (λ l. get_or l c.loop-row.row-index c.row-item.result) rows) c.loop-row.invariant
    (subst (λ (others : List (List (List ℕ))). Reduces g.row.N (map (joined g.row.N c.row-item.result) others) c.loop-row.kept c.add_joined.new.self) c.rows.ensures c.in_ok-add_joined.ensures)
