-- Nothing is found of the rules so far.
use Rattle.std.proofs.Common.{◌+◌, map}
use Rattle.lgc_report.specs.Reports.{plain_numbered}
use Rattle.lgc_check.specs.Causes.{found_of_rule}
use Rattle.lgc_check.specs.Verdicts.{AreRightBefore}
use Rattle.lgc_check.proofs.derivation.first_of_rules.Given as goal

abbrev pub invariant-loop-i : goal.invariant-loop-i
invariant-loop-i g l = AreRightBefore (found_of_rule l.m) (map plain_numbered l.rules) (l.i + 1)
