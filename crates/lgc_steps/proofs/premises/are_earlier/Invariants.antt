-- The cited lines so far stand before.
use Rattle.std.proofs.Common.{◌≡◌, drop}
use Rattle.std.specs.List.{list_all}
use Rattle.lgc_steps.specs.StepTests.{is_position}
use Rattle.lgc_steps.proofs.premises.are_earlier.Given as goal

abbrev pub invariant-loop-premise : goal.invariant-loop-premise
invariant-loop-premise g l = list_all (λ c. is_position l.before c.line) l.premises ≡ list_all (λ c. is_position l.before c.line) (drop l.premise-index l.premises)
