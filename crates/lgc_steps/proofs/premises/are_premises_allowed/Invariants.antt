-- The premises so far have allowed items alone.
use Rattle.std.proofs.Common.{◌≡◌, drop}
use Rattle.lgc_clauses.specs.Kinds.{plain_rule}
use Rattle.lgc_steps.specs.StepTests.{all_zip, is_allowed}
use Rattle.lgc_steps.proofs.premises.are_premises_allowed.Given as goal

abbrev pub invariant-loop-i : goal.invariant-loop-i
invariant-loop-i g l = all_zip (is_allowed (plain_rule l.rule).head l.principal l.conclusion l.before) (plain_rule l.rule).clauses l.premises ≡ all_zip (is_allowed (plain_rule l.rule).head l.principal l.conclusion l.before) (drop l.i (plain_rule l.rule).clauses) (drop l.i l.premises)
