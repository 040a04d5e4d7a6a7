-- The terms that are left decide.
use Rattle.std.proofs.Common.{◌≡◌, drop}
use Rattle.std.specs.List.{list_any}
use Rattle.lgc_syntax.specs.Variables.{occurs}
use Rattle.lgc_syntax.proofs.variables.+occurs_in.Given as goal

abbrev pub invariant-occurs_in_some-loop-term : goal.invariant-occurs_in_some-loop-term
invariant-occurs_in_some-loop-term l = list_any (occurs l.name) l.terms ≡ list_any (occurs l.name) (drop l.term-index l.terms)
