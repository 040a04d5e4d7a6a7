use Rattle.std.proofs.Common.{◌≡◌, take, None}
use Rattle.lgc_spec.specs.Statements.{first_second}
use Rattle.lgc_spec.proofs.statements.check_single.Given as goal

abbrev pub invariant-loop-i : goal.invariant-loop-i
invariant-loop-i l = first_second (take l.i l.statements) ≡ None
