-- The entries so far have other formulas.
use Rattle.std.proofs.Common.{◌≡◌, drop}
use Rattle.std.specs.List.{list_any}
use Rattle.lgc_syntax.specs.Equality.{same_formula}
use Rattle.lgc_check.proofs.refutation.is_listed.Given as goal

abbrev pub invariant-loop-entry : goal.invariant-loop-entry
invariant-loop-entry l = list_any (λ entry. same_formula l.f entry.0) l.entries ≡ list_any (λ entry. same_formula l.f entry.0) (drop l.entry-index l.entries)
