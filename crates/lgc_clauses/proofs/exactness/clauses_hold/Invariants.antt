use Rattle.std.proofs.Common.{◌≡◌, ℕ, ◌<◌, true}
use Rattle.lgc_clauses.specs.Kinds.{plain_rule}
use Rattle.lgc_clauses.specs.Rules.{is_true_at}
use Rattle.lgc_clauses.specs.Irredundance.{clause_at}
use Rattle.lgc_clauses.proofs.exactness.clauses_hold.Given as goal

abbrev pub invariant-loop-i : goal.invariant-loop-i
invariant-loop-i g l = (k : ℕ) → k < l.i → is_true_at l.m (plain_rule l.rule).head (clause_at (plain_rule l.rule).clauses k) l.row ≡ true
