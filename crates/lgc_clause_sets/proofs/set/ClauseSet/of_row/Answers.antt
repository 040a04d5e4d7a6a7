-- What is added to none is a reduction of it.
use Rattle.std.proofs.Common.{List, ℕ, ◌∷◌, [], subst}
use Rattle.lgc_clause_sets.specs.Reductions.{Reduces}
use Rattle.lgc_clause_sets.proofs.ReductionLaws.{reduction_from_none}
use Rattle.lgc_clause_sets.proofs.set.ClauseSet.of_row.Goals as goal

pub returns : goal.returns
returns g c = reduction_from_none g.row.N (c.args.row ∷ []) c.add.new.self (subst (λ (old : List (List (List ℕ))). Reduces g.row.N (c.args.row ∷ []) old c.add.new.self) c.new-set.ensures c.in_ok-add.ensures.ok)
