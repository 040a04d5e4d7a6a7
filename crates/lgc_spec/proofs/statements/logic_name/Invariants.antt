use Rattle.std.proofs.Common.{◌≡◌, take, None}
use Rattle.lgc_spec.specs.Statements.{first_some, name_in}
use Rattle.lgc_spec.proofs.statements.logic_name.Given as goal

abbrev pub invariant-loop-statement : goal.invariant-loop-statement
invariant-loop-statement l = first_some name_in (take l.statement-index l.statements) ≡ None
