use Rattle.std.proofs.Common.{◌≡◌, take, length}
use Rattle.lgc_values.specs.Logic.{arguments_at}
use Rattle.lgc_spec.specs.Words.{names_of}
use Rattle.lgc_spec.proofs.mapping.argument_names.Given as goal

abbrev pub invariant-loop-j : goal.invariant-loop-j
invariant-loop-j l = l.found ≡ names_of l.names (take l.j (arguments_at (length l.names) l.arity l.index))
