use Rattle.lgc_formulas.specs.Setting.{setting_of}
use Rattle.lgc_rules.proofs.RuleReads.{value_reads}
use Rattle.lgc_report_reader.specs.ReportReading.{value_here_at}
use Rattle.lgc_report_reader.proofs.ReportedTokens.{spelled_gives}
use Rattle.lgc_report_reader.proofs.part.value.Goals as goal

pub returns-clause-gives : goal.returns-clause-gives
unfolding value_here_at
returns-clause-gives g c = spelled_gives (setting_of c.args.c.now) c.args.c.now.bytes.now (value_reads c.args.c.now.m.now) c.args.tokens.now _ _ _ c.read_value.ensures.gives
