-- The items so far on other formulas are included.
use Rattle.std.proofs.Common.{◌≡◌, ◌≤◌, drop, length}
use Rattle.lgc_sequents.specs.Sequents.{is_included}
use Rattle.lgc_sequents.specs.Steps.{without}
use Rattle.lgc_steps.proofs.step.are_kept.Given as goal

abbrev pub invariant-loop-item : goal.invariant-loop-item
invariant-loop-item g l = record {
  kept : is_included (without l.f l.items) l.conclusion ≡ is_included (without l.f (drop l.item-index l.items)) l.conclusion;
  near : l.near ≤ length l.conclusion;
}
