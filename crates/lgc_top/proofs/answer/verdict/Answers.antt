use Rattle.lgc_top.proofs.Endings.{verdict_answers}
use Rattle.lgc_top.proofs.answer.verdict.Goals as goal

pub returns-in-Ok : goal.returns-in-Ok
returns-in-Ok c file report files files_after kept asked = verdict_answers file report files files_after c.args.spec.now c.args.bytes.now c.in-Ok.told.line.items c.in-Ok.told.accepted c.verdict_status.result kept c.verdict_status.ensures asked c.in-Ok.ensures
