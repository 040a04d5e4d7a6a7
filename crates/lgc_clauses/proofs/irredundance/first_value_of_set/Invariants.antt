use Rattle.std.proofs.Common.{ℕ, ◌<◌}
use Rattle.lgc_clauses.specs.Kinds.{plain_rule}
use Rattle.lgc_clauses.specs.Irredundance.{IsRedundantValue}
use Rattle.lgc_clauses.proofs.irredundance.first_value_of_set.Given as goal

abbrev pub invariant-loop-v : goal.invariant-loop-v
invariant-loop-v g l = (w : ℕ) → w < l.v → IsRedundantValue l.m (plain_rule l.rule) l.i l.j w → ⊥
