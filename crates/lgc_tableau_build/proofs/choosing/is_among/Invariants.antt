-- How the loop over the others looks for the number.
use Rattle.std.proofs.Common.{◌≡◌, drop}
use Rattle.lgc_values.specs.Values.{has}
use Rattle.lgc_tableau_build.proofs.choosing.is_among.Given as goal

abbrev pub invariant-loop-other : goal.invariant-loop-other
invariant-loop-other l = has l.numbers l.number ≡ has (drop l.other-index l.numbers) l.number
