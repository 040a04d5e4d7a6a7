-- The variable isn't free in the items so far.
use Rattle.std.proofs.Common.{◌≡◌, drop}
use Rattle.std.specs.Prelude.{not}
use Rattle.std.specs.List.{list_all}
use Rattle.lgc_syntax.specs.Variables.{free}
use Rattle.lgc_steps.proofs.premises.is_fresh.Given as goal

abbrev pub invariant-loop-item : goal.invariant-loop-item
invariant-loop-item g l = list_all (λ item. not (free l.name item.formula)) l.conclusion ≡ list_all (λ item. not (free l.name item.formula)) (drop l.item-index l.conclusion)
