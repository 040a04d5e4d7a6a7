use Rattle.lgc_top.proofs.Endings.{report_answers}
use Rattle.lgc_top.proofs.answer.report.Goals as goal

pub returns-in-Ok : goal.returns-in-Ok
returns-in-Ok c file queries files files_after kept asked = report_answers file queries files files_after c.args.spec.now c.args.bytes.now c.in-Ok.answered.text.items c.in-Ok.answered.all_proved c.answer_status.result kept c.answer_status.ensures asked c.in-Ok.ensures
