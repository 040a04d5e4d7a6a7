-- The terms so far are eigenvariables.
use Rattle.std.proofs.Common.{◌≡◌, drop}
use Rattle.lgc_steps.specs.StepTests.{are_eigenvariables}
use Rattle.lgc_steps.proofs.premises.are_eigenvariables.Given as goal

abbrev pub invariant-loop-i : goal.invariant-loop-i
invariant-loop-i g l = are_eigenvariables l.conclusion l.terms ≡ are_eigenvariables l.conclusion (drop l.i l.terms)
