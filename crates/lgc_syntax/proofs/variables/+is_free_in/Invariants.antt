-- The formulas that are left decide.
use Rattle.std.proofs.Common.{◌≡◌, drop}
use Rattle.std.specs.List.{list_any}
use Rattle.lgc_syntax.specs.Variables.{free}
use Rattle.lgc_syntax.proofs.variables.+is_free_in.Given as goal

abbrev pub invariant-is_free_in_some-loop-formula : goal.invariant-is_free_in_some-loop-formula
invariant-is_free_in_some-loop-formula l = list_any (free l.name) l.formulas ≡ list_any (free l.name) (drop l.formula-index l.formulas)
