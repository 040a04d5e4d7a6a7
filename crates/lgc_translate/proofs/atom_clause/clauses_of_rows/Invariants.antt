-- The rows so far are clauses.
use Rattle.std.proofs.Common.{◌≡◌, map, take}
use Rattle.lgc_translate.specs.SignedClauses.{signed_atoms}
use Rattle.lgc_translate.proofs.atom_clause.clauses_of_rows.Given as goal

abbrev pub invariant-loop-row : goal.invariant-loop-row
invariant-loop-row g l = l.clauses ≡ map (signed_atoms l.atoms) (take l.row-index l.rows)
