-- The rest of the atoms is to be signed.
use Rattle.std.proofs.Common.{◌≡◌, ◌++◌, drop}
use Rattle.lgc_translate.specs.SignedClauses.{signed_atoms}
use Rattle.lgc_translate.proofs.atom_clause.items_of_sets.Given as goal

abbrev pub invariant-loop-place : goal.invariant-loop-place
invariant-loop-place g l = signed_atoms l.atoms l.sets ≡ l.items ++ signed_atoms (drop l.place l.atoms) (drop l.place l.sets)
