use Rattle.std.proofs.Common.{◌≡◌, take, None}
use Rattle.lgc_spec.specs.Statements.{first_some, designated_in}
use Rattle.lgc_spec.proofs.statements.designated_values.Given as goal

abbrev pub invariant-loop-statement : goal.invariant-loop-statement
invariant-loop-statement l = first_some designated_in (take l.statement-index l.statements) ≡ None
