-- The items so far are allowed.
use Rattle.std.proofs.Common.{◌≡◌, ◌≤◌, drop, length}
use Rattle.lgc_clauses.specs.Kinds.{plain_rule}
use Rattle.lgc_clauses.specs.Irredundance.{clause_at}
use Rattle.lgc_sequents.specs.Steps.{auxiliary_formulas, are_allowed}
use Rattle.lgc_steps.proofs.premises.are_items_allowed.Given as goal

abbrev pub invariant-loop-item : goal.invariant-loop-item
invariant-loop-item g l = record {
  allowed : are_allowed l.conclusion (auxiliary_formulas (plain_rule l.rule).head (clause_at (plain_rule l.rule).clauses l.fn.i) l.principal l.terms) l.items ≡ are_allowed l.conclusion (auxiliary_formulas (plain_rule l.rule).head (clause_at (plain_rule l.rule).clauses l.fn.i) l.principal l.terms) (drop l.item-index l.items);
  near : l.near ≤ length l.conclusion;
}
