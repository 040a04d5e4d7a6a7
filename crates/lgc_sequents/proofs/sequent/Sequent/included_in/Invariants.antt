-- How the loop over the items looks for one that isn't included.
use Rattle.std.proofs.Common.{◌≡◌, drop}
use Rattle.lgc_sequents.specs.Sequents.{is_included}
use Rattle.lgc_sequents.proofs.sequent.Sequent.included_in.Given as goal

abbrev pub invariant-loop-item : goal.invariant-loop-item
invariant-loop-item g l = is_included l.item-items l.other ≡ is_included (drop l.item-index l.item-items) l.other
