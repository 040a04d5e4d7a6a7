-- The rest of the rules tells the answer.
use Rattle.std.proofs.Common.{◌≡◌, drop}
use Rattle.lgc_translate.specs.Translation.{rule_clauses}
use Rattle.lgc_translate.specs.Covering.{has_rule}
use Rattle.lgc_translate.proofs.rows.rule_at.Given as goal

abbrev pub invariant-loop-rule : goal.invariant-loop-rule
invariant-loop-rule g l = record {
  there : has_rule l.rules l.op l.sign ≡ has_rule (drop l.rule-index l.rules) l.op l.sign;
  found : rule_clauses l.rules l.op l.sign ≡ rule_clauses (drop l.rule-index l.rules) l.op l.sign;
}
