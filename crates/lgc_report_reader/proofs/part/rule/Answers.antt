use Rattle.lgc_formulas.specs.Setting.{setting_of}
use Rattle.lgc_tokens.specs.declared.number.TheConstants.{MOST_NUMBER}
use Rattle.lgc_rules.proofs.RuleReads.{rule_reads}
use Rattle.lgc_report_reader.specs.ReportReading.{rule_here_at}
use Rattle.lgc_report_reader.proofs.ReportedTokens.{spelled_gives}
use Rattle.lgc_report_reader.proofs.part.rule.Goals as goal

pub returns-clause-gives : goal.returns-clause-gives
unfolding rule_here_at
returns-clause-gives g c = spelled_gives (setting_of c.args.c.now) c.args.c.now.bytes.now (rule_reads g.row.N c.args.c.now.m.now 0 MOST_NUMBER) c.args.tokens.now _ _ _ c.one_rule.ensures.gives
