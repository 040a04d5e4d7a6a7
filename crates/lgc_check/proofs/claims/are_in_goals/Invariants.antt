-- The lines so far are included in their goals.
use Rattle.std.proofs.Common.{◌≡◌, drop}
use Rattle.lgc_goals.specs.Goals.{goals_of}
use Rattle.lgc_steps.specs.StepTests.{all_zip}
use Rattle.lgc_check.specs.ClaimTests.{is_included_at}
use Rattle.lgc_check.proofs.claims.are_in_goals.Given as goal

abbrev pub invariant-loop-place : goal.invariant-loop-place
invariant-loop-place g l = all_zip (is_included_at l.lines) l.cited (goals_of g.row.N l.query) ≡ all_zip (is_included_at l.lines) (drop l.place l.cited) (drop l.place (goals_of g.row.N l.query))
