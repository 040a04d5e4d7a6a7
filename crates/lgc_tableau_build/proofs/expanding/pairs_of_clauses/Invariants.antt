-- The pairs of the clauses so far.
use Rattle.std.proofs.Common.{◌≡◌, map, take}
use Rattle.std.specs.List.{zip}
use Rattle.lgc_tableau_build.proofs.expanding.pairs_of_clauses.Given as goal

abbrev pub invariant-loop-clause : goal.invariant-loop-clause
invariant-loop-clause g l = l.all ≡ map (zip l.args) (take l.clause-index l.clauses)
