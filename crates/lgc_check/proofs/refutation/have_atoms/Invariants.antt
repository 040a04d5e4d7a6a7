-- The entries so far have atoms of the list.
use Rattle.std.proofs.Common.{◌≡◌, drop}
use Rattle.std.specs.List.{list_all, list_any}
use Rattle.lgc_syntax.specs.Equality.{same_formula}
use Rattle.lgc_check.proofs.refutation.have_atoms.Given as goal

abbrev pub invariant-loop-entry : goal.invariant-loop-entry
invariant-loop-entry l = list_all (λ entry. list_any (same_formula entry.0) l.atoms) l.entries ≡ list_all (λ entry. list_any (same_formula entry.0) l.atoms) (drop l.entry-index l.entries)
