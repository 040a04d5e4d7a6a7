-- The arguments and the clauses so far are covered.
use Rattle.std.proofs.Common.{◌≡◌, map, drop}
use Rattle.std.specs.List.{list_all}
use Rattle.lgc_translate.specs.Covering.{all_covered, covers}
use Rattle.lgc_translate.proofs.covering.+first_missing.Given as goal

abbrev pub invariant-missing_in_clause-loop-j : goal.invariant-missing_in_clause-loop-j
invariant-missing_in_clause-loop-j g l =
    all_covered l.sets (map (covers g.row.N l.rules) l.args) ≡ all_covered (drop l.j l.sets) (drop l.j (map (covers g.row.N l.rules) l.args))

abbrev pub invariant-missing_in_clauses-loop-clause : goal.invariant-missing_in_clauses-loop-clause
invariant-missing_in_clauses-loop-clause g l =
    list_all (λ sets. all_covered sets (map (covers g.row.N l.rules) l.args)) l.clauses ≡ list_all (λ sets. all_covered sets (map (covers g.row.N l.rules) l.args)) (drop l.clause-index l.clauses)
