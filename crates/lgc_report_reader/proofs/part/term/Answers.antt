use Rattle.lgc_formulas.specs.Setting.{setting_of}
use Rattle.lgc_report_reader.proofs.ReportReads.{lone_term_reads}
use Rattle.lgc_report_reader.specs.ReportReading.{term_here_at}
use Rattle.lgc_report_reader.proofs.ReportedTokens.{spelled_gives}
use Rattle.lgc_report_reader.proofs.part.term.Goals as goal

pub returns-clause-gives : goal.returns-clause-gives
unfolding term_here_at
returns-clause-gives g c = spelled_gives (setting_of c.args.c.now) c.args.c.now.bytes.now lone_term_reads c.args.tokens.now _ _ _ c.lone_term.ensures.gives
