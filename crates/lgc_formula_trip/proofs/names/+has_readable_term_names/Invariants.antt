-- The terms that are left decide.
use Rattle.std.proofs.Common.{◌≡◌, false, drop}
use Rattle.std.specs.List.{list_all}
use Rattle.lgc_formulas.specs.Writable.{has_readable_term_names}
use Rattle.lgc_formula_trip.proofs.names.+has_readable_term_names.Given as goal

abbrev pub invariant-have_readable_term_names-loop-term : goal.invariant-have_readable_term_names-loop-term
invariant-have_readable_term_names-loop-term l = list_all (has_readable_term_names false) l.terms ≡ list_all (has_readable_term_names false) (drop l.term-index l.terms)
