-- It is left to the items from j on.
use Rattle.std.proofs.Common.{◌≡◌, map, drop}
use Rattle.lgc_clauses.specs.Rules.{clause_holds}
use Rattle.lgc_tableau_check.proofs.split.is_true_at.Given as goal

abbrev pub invariant-loop-j : goal.invariant-loop-j
invariant-loop-j g l = clause_holds g.row.N (map (λ item. item.sign) (drop l.j l.items)) l.row ≡ clause_holds g.row.N (map (λ item. item.sign) l.items) l.row
