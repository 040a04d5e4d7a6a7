use Rattle.lgc_formulas.specs.Setting.{setting_of}
use Rattle.lgc_formulas.specs.declared.formula.TheConstants.{MOST_NODES}
use Rattle.lgc_formulas.proofs.FormulaReads.{one_formula_reads}
use Rattle.lgc_report_reader.specs.ReportReading.{formula_here_at}
use Rattle.lgc_report_reader.proofs.ReportedTokens.{named_gives}
use Rattle.lgc_report_reader.proofs.part.formula.Goals as goal

pub returns-clause-gives : goal.returns-clause-gives
unfolding formula_here_at
returns-clause-gives g c = named_gives (setting_of c.args.c.now) c.args.c.now.bytes.now (one_formula_reads (setting_of c.args.c.now) MOST_NODES) c.args.tokens.now _ _ _ c.one_formula.ensures.gives
