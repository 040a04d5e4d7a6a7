use Rattle.lgc_tokens.specs.Spelled.{spelled_all, place_of}
use Rattle.lgc_tokens.specs.declared.number.TheConstants.{MOST_NUMBER}
use Rattle.lgc_tokens.proofs.Places.{length-spelled, spelled_drop}
use Rattle.lgc_inputs.proofs.Places.{told_left, reads_split}
use Rattle.lgc_rules.specs.RuleReading.{rule_at}
use Rattle.lgc_rules.proofs.RuleReads.{rule_reads}
use Rattle.lgc_rules.proofs.file.rule_behind.Goals as goal

pub returns-in-Ok-clause-exact : goal.returns-in-Ok-clause-exact
returns-in-Ok-clause-exact g c = told_left place_of (spelled_all c.args.bytes.now) (length-spelled c.args.bytes.now) (spelled_drop c.args.bytes.now) (rule_at g.row.N c.args.m.now 0 MOST_NUMBER) (reads_split (rule_reads g.row.N c.args.m.now 0 MOST_NUMBER)) _ c.args.tokens.now c.in-Ok.rest.now c.in-Ok.rule c.in-Ok.ensures.gives
