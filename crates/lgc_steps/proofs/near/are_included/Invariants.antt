-- The items so far are included.
use Rattle.std.proofs.Common.{◌≡◌, ◌≤◌, drop, length}
use Rattle.lgc_sequents.specs.Sequents.{is_included}
use Rattle.lgc_steps.proofs.near.are_included.Given as goal

abbrev pub invariant-loop-item : goal.invariant-loop-item
invariant-loop-item g l = record {
  included : is_included l.items l.sequent ≡ is_included (drop l.item-index l.items) l.sequent;
  near : l.near ≤ length l.sequent;
}
