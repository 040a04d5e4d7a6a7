-- The clauses have the sets that were taken so far.
use Rattle.std.proofs.Common.{◌≡◌}
use Rattle.lgc_quant_rules.proofs.rule.clauses_of.Given as goal

abbrev pub invariant-loop-sets : goal.invariant-loop-sets
invariant-loop-sets g l = l.clauses.items ≡ l.yielded
