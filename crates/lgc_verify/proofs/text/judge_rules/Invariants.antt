use Rattle.std.proofs.Common.{take, All}
use Rattle.std.specs.Prelude.{map, ◌↔◌, IsTrue}
use Rattle.lgc_clauses.specs.Kinds.{plain_rule}
use Rattle.lgc_verify.specs.Verdicts.{IsRight, IsText}
use Rattle.lgc_verify.proofs.text.judge_rules.Given as goal

abbrev pub invariant-loop-i : goal.invariant-loop-i
invariant-loop-i g l = record {
  lines : IsText l.m (map plain_rule (take l.i l.rules)) l.lines.items;
  right : IsTrue l.all_right ↔ All (IsRight l.m) (map plain_rule (take l.i l.rules));
}
