use Rattle.std.proofs.Common.{◌≡◌, ◌+◌, ◌≤◌, length}
use Rattle.lgc_tokens.specs.declared.class.Class.TheVariants.{RuleWord}
use Rattle.lgc_tokens.specs.Spelled.{IsRest, spelled_all}
use Rattle.lgc_tokens.specs.Classes.{is}
use Rattle.lgc_grammar.specs.Reading.{growing_at}
use Rattle.lgc_rules.specs.RuleReading.{next_rule_at, rules_at}
use Rattle.lgc_rules.proofs.file.more_rules.Given as goal

abbrev pub invariant-loop-alloc : goal.invariant-loop-alloc
invariant-loop-alloc g l = record {
  so_far : growing_at (is RuleWord) (next_rule_at g.row.N l.m) l.rules (spelled_all l.bytes l.rest) ≡ rules_at g.row.N l.m (spelled_all l.bytes l.tokens);
  few : length l.rules + length l.rest ≤ length l.tokens;
  rest : IsRest l.bytes l.tokens l.rest;
}

abbrev pub decreases-loop-alloc : goal.decreases-loop-alloc
decreases-loop-alloc g l = length l.rest
