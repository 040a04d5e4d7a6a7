-- The clauses so far.
use Rattle.std.proofs.Common.{◌≡◌, take}
use Rattle.lgc_prove.proofs.copy.copy_rule.Given as goal

abbrev pub invariant-loop-clause : goal.invariant-loop-clause
invariant-loop-clause g l = l.clauses ≡ take l.clause-index l.clause-items
