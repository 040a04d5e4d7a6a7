use Rattle.std.proofs.Common.{◌∙◌}
use Rattle.lgc_inputs.proofs.Stops.{tells_same}
use Rattle.lgc_rules.proofs.Tops.{file_answer, file_once, file_is, file_faults, file_fits}
use Rattle.lgc_rules.proofs.file.read_rules.Goals as goal

pub returns-clause-answer : goal.returns-clause-answer
returns-clause-answer g c = file_answer g.row.N c.args.m.now c.args.bytes.now _ c.rules_in.ensures

pub returns-clause-complete : goal.returns-clause-complete
returns-clause-complete g c = λ rules h. file_is g.row.N c.args.m.now c.args.bytes.now rules _ h c.rules_in.ensures

pub returns-clause-fits : goal.returns-clause-fits
returns-clause-fits g c = file_fits g.row.N c.args.m.now c.args.bytes.now (c.names-names.ensures.logic.named ∙ c.names-names.ensures.size) _ c.rules_in.ensures

pub returns-clause-once : goal.returns-clause-once
returns-clause-once g c = λ told h. tells_same (λ rules. rules) _ _ told (file_once g.row.N c.args.m.now c.args.bytes.now told h) c.rules_in.ensures

pub returns-clause-faults : goal.returns-clause-faults
returns-clause-faults g c = file_faults g.row.N c.args.m.now c.args.bytes.now _ (file_answer g.row.N c.args.m.now c.args.bytes.now _ c.rules_in.ensures)
