-- How the loop over the items looks for the formula.
use Rattle.std.proofs.Common.{◌≡◌, drop}
use Rattle.lgc_sequents.specs.Sequents.{sign_in}
use Rattle.lgc_steps.proofs.step.sign_among.Given as goal

abbrev pub invariant-loop-item : goal.invariant-loop-item
invariant-loop-item g l = sign_in l.items l.f ≡ sign_in (drop l.item-index l.items) l.f
