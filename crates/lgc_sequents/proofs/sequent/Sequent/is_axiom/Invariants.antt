-- How the loop over the items looks for a full sign.
use Rattle.std.proofs.Common.{◌≡◌, drop}
use Rattle.lgc_sequents.specs.Sequents.{is_axiom}
use Rattle.lgc_sequents.proofs.sequent.Sequent.is_axiom.Given as goal

abbrev pub invariant-loop-item : goal.invariant-loop-item
invariant-loop-item g l = is_axiom g.row.N l.item-items ≡ is_axiom g.row.N (drop l.item-index l.item-items)
