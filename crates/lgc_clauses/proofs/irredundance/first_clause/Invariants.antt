use Rattle.std.proofs.Common.{ℕ, ◌<◌}
use Rattle.lgc_clauses.specs.Kinds.{plain_rule}
use Rattle.lgc_clauses.specs.Irredundance.{IsRedundantClause}
use Rattle.lgc_clauses.proofs.irredundance.first_clause.Given as goal

abbrev pub invariant-loop-i : goal.invariant-loop-i
invariant-loop-i g l = (k : ℕ) → k < l.i → IsRedundantClause l.m (plain_rule l.rule) k → ⊥
