use Rattle.lgc_top.proofs.Endings.{lines_answer}
use Rattle.lgc_top.proofs.answer.verdicts.Goals as goal

pub returns-in-Ok : goal.returns-in-Ok
returns-in-Ok c file rules files files_after kept asked = lines_answer file rules files files_after c.args.spec.now c.args.bytes.now c.in-Ok.judged.lines.items c.in-Ok.judged.all_right c.verdict_status.result kept c.verdict_status.ensures asked c.in-Ok.ensures
