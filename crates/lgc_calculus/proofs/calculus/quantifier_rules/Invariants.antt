use Rattle.std.specs.Prelude.{map}
use Rattle.lgc_clauses.specs.Rules.{quantifier}
use Rattle.lgc_clauses.specs.Kinds.{plain_rule}
use Rattle.lgc_calculus.proofs.RuleLists.{AreRulesSoFar}
use Rattle.lgc_calculus.proofs.calculus.quantifier_rules.Given as goal

abbrev pub invariant-loop-q : goal.invariant-loop-q
invariant-loop-q g l = AreRulesSoFar l.m quantifier l.q 0 (map plain_rule l.rules.items)

abbrev pub invariant-loop-v : goal.invariant-loop-v
invariant-loop-v g l = AreRulesSoFar l.m quantifier l.q l.v (map plain_rule l.rules.items)
