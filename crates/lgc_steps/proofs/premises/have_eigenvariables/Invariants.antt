-- The premises so far have eigenvariables.
use Rattle.std.proofs.Common.{◌≡◌, drop}
use Rattle.lgc_clauses.specs.Kinds.{plain_rule}
use Rattle.lgc_steps.specs.StepTests.{all_zip, has_eigenvariables}
use Rattle.lgc_steps.proofs.premises.have_eigenvariables.Given as goal

abbrev pub invariant-loop-i : goal.invariant-loop-i
invariant-loop-i g l = all_zip (has_eigenvariables (plain_rule l.rule).head l.conclusion) (plain_rule l.rule).clauses l.premises ≡ all_zip (has_eigenvariables (plain_rule l.rule).head l.conclusion) (drop l.i (plain_rule l.rule).clauses) (drop l.i l.premises)
