-- The entries that were looked at are of other formulas.
use Rattle.std.proofs.Common.{◌≢◌, take}
use Rattle.std.specs.Prelude.{All}
use Rattle.lgc_tests.proofs.asked.lists.Given as goal

abbrev pub invariant-loop-entry : goal.invariant-loop-entry
invariant-loop-entry l = All (λ entry. entry.0 ≢ l.f) (take l.entry-index l.entries)
