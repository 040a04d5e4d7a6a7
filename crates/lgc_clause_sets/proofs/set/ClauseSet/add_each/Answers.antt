-- One clause more is added.
use Rattle.std.proofs.Common.{◌∙◌, ◌++◌, ◌∷◌, [], ap, sym, append_assoc, length, arith, List, ℕ, subst}
use Rattle.std.specs.Vec.Iter.{into_iter_items}
use Rattle.lgc_clause_sets.specs.Reductions.{Reduces}
use Rattle.lgc_clause_sets.proofs.ReductionLaws.{reduces_further, nothing_left}
use Rattle.lgc_clause_sets.proofs.set.ClauseSet.add_each.Goals as goal

pub loop-row-preserved : goal.loop-row-preserved
loop-row-preserved g c =
    let at = c.loop-row in
    let steps = c.in-Some.ensures.steps in (
      append_assoc at.yielded (c.in-Some.row ∷ []) (into_iter_items c.next.new.self) ∙ ap (λ rest. at.yielded ++ rest) (sym steps.0) ∙ at.invariant.0,
      omega (arith, at.invariant.1, steps.1, ap length steps.0),
      reduces_further g.row.N at.yielded (c.in-Some.row ∷ []) c.args.self.now at.self c.add.new.self at.invariant.2 c.in_ok-add.ensures.ok,
    )

pub returns : goal.returns
returns g c =
    let steps = c.in-None.ensures.steps in
    subst (λ (rows : List (List (List ℕ))). Reduces g.row.N rows c.args.self.now c.loop-row.self) (nothing_left c.loop-row.yielded (into_iter_items c.loop-row.row-iterator) c.args.others (c.loop-row.invariant.0 ∙ c.into_iter-row-iterator.ensures.into_iter_gives.0 ∙ c.into_rows-row-items.ensures) (omega (arith, c.loop-row.invariant.1, steps.0))) c.loop-row.invariant.2
