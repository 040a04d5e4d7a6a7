-- What is chosen so far is reduced: of a clause's arguments from the last on, and of the clauses from the first on.
use Rattle.std.proofs.Common.{◌≤◌, min, length, map, take, drop}
use Rattle.std.specs.List.{flat_map}
use Rattle.lgc_clause_sets.specs.Reductions.{IsReduction}
use Rattle.lgc_translate.specs.Translation.{choices, translated}
use Rattle.lgc_translate.proofs.translation.+reduced.Given as goal

abbrev pub invariant-of_clause-loop-j : goal.invariant-of_clause-loop-j
invariant-of_clause-loop-j g l = record {
  within : l.j ≤ min (length l.args) (length l.sets);
  kept : IsReduction g.row.N (choices g.row.N l.atoms (drop l.j l.sets) (map (translated g.row.N l.rules l.atoms) (drop l.j l.args))) l.kept;
}

abbrev pub decreases-of_clause-loop-j : goal.decreases-of_clause-loop-j
decreases-of_clause-loop-j g l = l.j

abbrev pub invariant-of_clauses-loop-clause : goal.invariant-of_clauses-loop-clause
invariant-of_clauses-loop-clause g l = IsReduction g.row.N (flat_map (λ sets. choices g.row.N l.atoms sets (map (translated g.row.N l.rules l.atoms) l.args)) (take l.clause-index l.clauses)) l.kept
