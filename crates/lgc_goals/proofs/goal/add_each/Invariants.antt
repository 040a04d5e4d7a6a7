-- The formulas before are added.
use Rattle.std.proofs.Common.{◌≡◌, drop}
use Rattle.std.specs.List.{fold}
use Rattle.lgc_goals.specs.Goals.{each_signed, with_signed}
use Rattle.lgc_goals.proofs.goal.add_each.Given as goal

abbrev pub invariant-loop-f : goal.invariant-loop-f
invariant-loop-f g l = fold (with_signed g.row.N) l.initial.goal (each_signed l.sign l.formulas) ≡ fold (with_signed g.row.N) l.goal (each_signed l.sign (drop l.f-index l.formulas))
