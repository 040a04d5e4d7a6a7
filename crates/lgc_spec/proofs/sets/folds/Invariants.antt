use Rattle.std.proofs.Common.{◌≡◌, map}
use Rattle.lgc_spec.specs.Folds.{applied, folded}
use Rattle.lgc_spec.proofs.SetSteps.{first_sets}
use Rattle.lgc_spec.proofs.sets.folds.Given as goal

abbrev pub invariant-loop-index : goal.invariant-loop-index
invariant-loop-index l = l.values ≡ map (folded (applied l.n l.table)) (first_sets l.n l.index)
