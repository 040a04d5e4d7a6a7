use Rattle.std.proofs.Common.{ℕ, ◌<◌}
use Rattle.lgc_clauses.specs.Kinds.{plain_rule}
use Rattle.lgc_clauses.specs.Irredundance.{IsRedundantValue, Never}
use Rattle.lgc_clauses.proofs.irredundance.first_value.Given as goal

abbrev pub invariant-loop-i : goal.invariant-loop-i
invariant-loop-i g l = (h k : ℕ) → h < l.i → Never (IsRedundantValue l.m (plain_rule l.rule) h k)
