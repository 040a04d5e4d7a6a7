-- The premises so far have as many terms as their clauses ask for.
use Rattle.std.proofs.Common.{◌≡◌, drop}
use Rattle.lgc_clauses.specs.Kinds.{plain_rule}
use Rattle.lgc_steps.specs.StepTests.{all_zip, has_terms}
use Rattle.lgc_steps.proofs.premises.have_terms.Given as goal

abbrev pub invariant-loop-i : goal.invariant-loop-i
invariant-loop-i g l = all_zip (has_terms (plain_rule l.rule).head) (plain_rule l.rule).clauses l.premises ≡ all_zip (has_terms (plain_rule l.rule).head) (drop l.i (plain_rule l.rule).clauses) (drop l.i l.premises)
