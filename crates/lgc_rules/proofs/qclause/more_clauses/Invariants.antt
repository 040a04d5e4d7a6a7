use Rattle.std.proofs.Common.{◌≡◌, length}
use Rattle.lgc_tokens.specs.Spelled.{IsRest, spelled_all}
use Rattle.lgc_rules.specs.RuleReading.{quantifier_clause_at, more_clauses_at}
use Rattle.lgc_rules.proofs.qclause.more_clauses.Given as goal

abbrev pub invariant-loop-alloc : goal.invariant-loop-alloc
invariant-loop-alloc g l = record {
  so_far : more_clauses_at (quantifier_clause_at g.row.N l.m) l.clauses (spelled_all l.bytes l.rest) ≡ more_clauses_at (quantifier_clause_at g.row.N l.m) l.fn.clauses (spelled_all l.bytes l.tokens);
  rest : IsRest l.bytes l.tokens l.rest;
}

abbrev pub decreases-loop-alloc : goal.decreases-loop-alloc
decreases-loop-alloc g l = length l.rest
