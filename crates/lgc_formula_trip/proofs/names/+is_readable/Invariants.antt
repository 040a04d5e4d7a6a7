-- The formulas that are left decide.
use Rattle.std.proofs.Common.{◌≡◌, false, drop}
use Rattle.std.specs.List.{list_all}
use Rattle.lgc_formulas.specs.Writable.{has_readable_names}
use Rattle.lgc_formula_trip.proofs.names.+is_readable.Given as goal

abbrev pub invariant-have_readable_names-loop-formula : goal.invariant-have_readable_names-loop-formula
invariant-have_readable_names-loop-formula g l = list_all (has_readable_names l.m false) l.formulas ≡ list_all (has_readable_names l.m false) (drop l.formula-index l.formulas)
