-- Each entry has a truth value.
use Rattle.std.proofs.Common.{◌<◌}
use Rattle.std.specs.Prelude.{All}
use Rattle.lgc_tests.proofs.asked.valuation_at.Given as goal

abbrev pub invariant-loop-atom : goal.invariant-loop-atom
invariant-loop-atom l = All (λ entry. entry.1 < 3) l.v
