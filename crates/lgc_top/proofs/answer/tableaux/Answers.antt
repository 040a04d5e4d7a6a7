use Rattle.lgc_top.proofs.Endings.{tableaux_answer}
use Rattle.lgc_top.proofs.answer.tableaux.Goals as goal

pub returns-in-Ok : goal.returns-in-Ok
returns-in-Ok c file queries files files_after kept asked = tableaux_answer file queries files files_after c.args.spec.now c.args.bytes.now c.in-Ok.told.text.items c.in-Ok.told.all_closed c.answer_status.result kept c.answer_status.ensures asked c.in-Ok.ensures
