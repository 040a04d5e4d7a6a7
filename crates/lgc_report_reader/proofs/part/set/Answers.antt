use Rattle.lgc_formulas.specs.Setting.{setting_of}
use Rattle.lgc_rules.proofs.RuleReads.{set_reads}
use Rattle.lgc_report_reader.specs.ReportReading.{set_here_at}
use Rattle.lgc_report_reader.proofs.ReportedTokens.{spelled_gives}
use Rattle.lgc_report_reader.proofs.part.set.Goals as goal

pub returns-clause-gives : goal.returns-clause-gives
unfolding set_here_at
returns-clause-gives g c = spelled_gives (setting_of c.args.c.now) c.args.c.now.bytes.now (set_reads g.row.N c.args.c.now.m.now) c.args.tokens.now _ _ _ c.read_set.ensures.gives
