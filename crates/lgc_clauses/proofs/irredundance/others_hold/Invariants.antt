use Rattle.std.proofs.Common.{◌≡◌, ℕ, ◌<◌, true}
use Rattle.lgc_clauses.specs.Kinds.{plain_rule}
use Rattle.lgc_clauses.specs.Rules.{is_true_at}
use Rattle.lgc_clauses.specs.Irredundance.{clause_at}
use Rattle.lgc_clauses.proofs.irredundance.others_hold.Given as goal

abbrev pub invariant-loop-k : goal.invariant-loop-k
invariant-loop-k g l = (h : ℕ) → h < l.k → (h ≡ l.i → ⊥) → is_true_at l.m (plain_rule l.rule).head (clause_at (plain_rule l.rule).clauses h) l.row ≡ true
