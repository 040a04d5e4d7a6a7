use Rattle.std.proofs.Common.{◌≡◌, ◌-◌, length}
use Rattle.lgc_rules.specs.Names.{padded}
use Rattle.lgc_rules.proofs.clause.pad.Given as goal

abbrev pub invariant-loop-sets : goal.invariant-loop-sets
invariant-loop-sets g l = padded l.width l.sets ≡ padded l.width l.fn.sets

abbrev pub decreases-loop-sets : goal.decreases-loop-sets
decreases-loop-sets g l = l.width - length l.sets
