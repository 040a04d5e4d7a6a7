use Rattle.std.proofs.Common.{◌≡◌, map, find, length, None}
use Rattle.lgc_spec.specs.Distributions.{result_over}
use Rattle.lgc_spec.proofs.SetSteps.{first_sets}
use Rattle.lgc_spec.proofs.DistributionSteps.{absent}
use Rattle.lgc_spec.proofs.distribution.results.Given as goal

abbrev pub invariant-loop-index : goal.invariant-loop-index
invariant-loop-index l = record {
  none : find (absent l.bytes l.names l.rows) (first_sets (length l.names) l.index) ≡ None;
  so_far : l.table ≡ map (result_over l.bytes l.names l.rows) (first_sets (length l.names) l.index);
}
