use Rattle.std.proofs.Common.{◌≡◌, take}
use Rattle.std.specs.Prelude.{map}
use Rattle.lgc_clauses.specs.Kinds.{plain_rule}
use Rattle.lgc_print.specs.Text.{rules_text}
use Rattle.lgc_print.proofs.rules.calculus_text.Given as goal

abbrev pub invariant-loop-i : goal.invariant-loop-i
invariant-loop-i g l = l.text.items ≡ rules_text l.m 1 (map plain_rule (take l.i l.rules))
