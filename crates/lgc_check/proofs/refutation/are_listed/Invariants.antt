-- The atoms so far have entries.
use Rattle.std.proofs.Common.{◌≡◌, drop}
use Rattle.std.specs.List.{list_all, list_any}
use Rattle.lgc_syntax.specs.Equality.{same_formula}
use Rattle.lgc_check.proofs.refutation.are_listed.Given as goal

abbrev pub invariant-loop-atom : goal.invariant-loop-atom
invariant-loop-atom l = list_all (λ atom. list_any (λ entry. same_formula atom entry.0) l.entries) l.atoms ≡ list_all (λ atom. list_any (λ entry. same_formula atom entry.0) l.entries) (drop l.atom-index l.atoms)
