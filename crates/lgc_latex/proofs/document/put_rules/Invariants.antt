use Rattle.std.proofs.Common.{◌≡◌, ◌++◌, take}
use Rattle.std.specs.Prelude.{map}
use Rattle.std.specs.List.{flat_map}
use Rattle.lgc_clauses.specs.Kinds.{plain_rule}
use Rattle.lgc_latex.specs.Latex.{rule_text}
use Rattle.lgc_latex.proofs.document.put_rules.Given as goal

abbrev pub invariant-loop-rule : goal.invariant-loop-rule
invariant-loop-rule g l = l.into.items ≡ l.initial.into.items ++ flat_map (rule_text l.m) (map plain_rule (take l.rule-index l.rules))
