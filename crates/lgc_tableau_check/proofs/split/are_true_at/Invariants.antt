-- It is left to the cases that are left.
use Rattle.std.proofs.Common.{◌≡◌, map, drop}
use Rattle.std.specs.List.{list_all}
use Rattle.lgc_clauses.specs.Rules.{clause_holds}
use Rattle.lgc_tableau.specs.ClosedTableaux.{sets_of}
use Rattle.lgc_tableau_check.proofs.split.are_true_at.Given as goal

abbrev pub invariant-loop-case : goal.invariant-loop-case
invariant-loop-case g l = list_all (λ sets. clause_holds g.row.N sets l.row) (map sets_of l.cases) ≡ list_all (λ sets. clause_holds g.row.N sets l.row) (map sets_of (drop l.case-index l.cases))
