use Rattle.std.specs.Prelude.{map}
use Rattle.lgc_clauses.specs.Rules.{operator}
use Rattle.lgc_clauses.specs.Kinds.{plain_rule}
use Rattle.lgc_calculus.proofs.RuleLists.{AreRulesSoFar}
use Rattle.lgc_calculus.proofs.calculus.operator_rules.Given as goal

abbrev pub invariant-loop-op : goal.invariant-loop-op
invariant-loop-op g l = AreRulesSoFar l.m operator l.op 0 (map plain_rule l.rules.items)

abbrev pub invariant-loop-v : goal.invariant-loop-v
invariant-loop-v g l = AreRulesSoFar l.m operator l.op l.v (map plain_rule l.rules.items)
