use Rattle.std.proofs.Common.{◌≡◌, ◌<◌, IfSome}
use Rattle.lgc_values.specs.Values.{members_of}
use Rattle.lgc_spec.specs.Folds.{applied}
use Rattle.lgc_spec.proofs.SetSteps.{joined}
use Rattle.lgc_spec.proofs.sets.folded.Given as goal

abbrev pub invariant-loop-value : goal.invariant-loop-value
invariant-loop-value l = record {
  so_far : l.joined ≡ joined (applied l.n l.table) (members_of l.value l.mask);
  below : IfSome l.joined (λ v. v < l.n);
}
