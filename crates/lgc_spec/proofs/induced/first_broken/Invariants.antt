use Rattle.std.proofs.Common.{◌≡◌, ℕ, ◌<◌, true}
use Rattle.lgc_values.specs.Logic.{arguments_at}
use Rattle.lgc_spec.specs.Folds.{applied}
use Rattle.lgc_spec.specs.Inductions.{width, holds}
use Rattle.lgc_spec.proofs.induced.first_broken.Given as goal

abbrev pub invariant-loop-index : goal.invariant-loop-index
invariant-loop-index l = (k : ℕ) → k < l.index → holds l.law (applied l.n l.table) (arguments_at l.n (width l.law) k) ≡ true
