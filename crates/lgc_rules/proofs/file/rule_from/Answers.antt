use Rattle.std.proofs.Common.{length, arith}
use Rattle.lgc_tokens.specs.Spelled.{spelled_all, place_of}
use Rattle.lgc_tokens.specs.declared.number.TheConstants.{MOST_NUMBER}
use Rattle.lgc_tokens.proofs.Places.{length-spelled, spelled_drop}
use Rattle.lgc_inputs.proofs.Places.{told_moved, same_back, fault_moved, reads_split}
use Rattle.lgc_rules.specs.RuleReading.{rule_at}
use Rattle.lgc_rules.proofs.RuleReads.{rule_reads}
use Rattle.lgc_rules.proofs.file.rule_from.Goals as goal

pub returns-in-Ok-clause-exact : goal.returns-in-Ok-clause-exact
returns-in-Ok-clause-exact g c = told_moved place_of (spelled_all c.args.bytes.now) (length-spelled c.args.bytes.now) (spelled_drop c.args.bytes.now) (rule_at g.row.N c.args.m.now 0 MOST_NUMBER) (reads_split (rule_reads g.row.N c.args.m.now 0 MOST_NUMBER)) (length c.args.bytes.now) c.args.tokens.now _ c.args.at c.requires.at c.split_at.ensures.back c.in-Ok.rule c.in-Ok.left (omega (arith, c.in-Ok.ensures.within)) c.in-Ok.ensures.exact

pub returns-in-Err-clause-exact : goal.returns-in-Err-clause-exact
returns-in-Err-clause-exact g c = fault_moved c.in-Err.fault _ _ (same_back place_of (spelled_all c.args.bytes.now) (length-spelled c.args.bytes.now) (spelled_drop c.args.bytes.now) (rule_at g.row.N c.args.m.now 0 MOST_NUMBER) (reads_split (rule_reads g.row.N c.args.m.now 0 MOST_NUMBER)) (length c.args.bytes.now) c.args.tokens.now _ c.args.at c.requires.at c.split_at.ensures.back) c.in-Err.ensures.exact
