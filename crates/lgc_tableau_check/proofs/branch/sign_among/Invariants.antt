-- The values among the items before.
use Rattle.std.proofs.Common.{◌≡◌, take}
use Rattle.lgc_values.specs.Values.{values_where}
use Rattle.lgc_sequents.specs.Steps.{carries}
use Rattle.lgc_tableau_check.proofs.branch.sign_among.Given as goal

abbrev pub invariant-loop-item : goal.invariant-loop-item
invariant-loop-item g l = l.sign ≡ values_where g.row.N (carries (take l.item-index l.items) l.f)
