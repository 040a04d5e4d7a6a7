use Rattle.std.proofs.Common.{ℕ, ◌<◌}
use Rattle.lgc_clauses.specs.Kinds.{plain_rule}
use Rattle.lgc_clauses.specs.Irredundance.{IsRedundantValue, Never, set_asked}
use Rattle.lgc_clauses.proofs.irredundance.first_value_of_clause.Given as goal

abbrev pub invariant-loop-place : goal.invariant-loop-place
invariant-loop-place g l = (earlier : ℕ) → earlier < l.place → Never (IsRedundantValue l.m (plain_rule l.rule) l.i (set_asked (plain_rule l.rule).head l.count earlier))
