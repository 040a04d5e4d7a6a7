-- A line stands at each position so far.
use Rattle.std.proofs.Common.{◌≡◌, drop}
use Rattle.std.specs.List.{list_all}
use Rattle.lgc_steps.specs.StepTests.{is_position}
use Rattle.lgc_check.proofs.claims.are_positions.Given as goal

abbrev pub invariant-loop-position : goal.invariant-loop-position
invariant-loop-position g l = list_all (is_position l.lines) l.cited ≡ list_all (is_position l.lines) (drop l.position-index l.cited)
