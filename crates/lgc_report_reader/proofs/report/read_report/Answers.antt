use Rattle.std.proofs.Common.{◌∙◌}
use Rattle.lgc_inputs.proofs.Stops.{tells_same}
use Rattle.lgc_report_reader.proofs.ReportFiles.{report_answer, report_once, report_is, report_fits, report_faults}
use Rattle.lgc_report_reader.proofs.report.read_report.Goals as goal

pub returns-clause-answer : goal.returns-clause-answer
returns-clause-answer g c = report_answer g.row.N c.args.m.now c.args.bytes.now _ c.report_in.ensures

pub returns-clause-once : goal.returns-clause-once
returns-clause-once g c = λ told h. tells_same (λ report. report) _ _ told (report_once g.row.N c.args.m.now c.args.bytes.now told h) c.report_in.ensures

pub returns-clause-complete : goal.returns-clause-complete
returns-clause-complete g c = λ report h. report_is g.row.N c.args.m.now c.args.bytes.now report _ h c.report_in.ensures

pub returns-clause-fits : goal.returns-clause-fits
returns-clause-fits g c = report_fits g.row.N c.args.m.now c.args.bytes.now c.names-names.ensures.logic (c.names-names.ensures.logic.named ∙ c.names-names.ensures.size) _ c.report_in.ensures

pub returns-clause-faults : goal.returns-clause-faults
returns-clause-faults g c = report_faults g.row.N c.args.m.now c.args.bytes.now _ (report_answer g.row.N c.args.m.now c.args.bytes.now _ c.report_in.ensures)
