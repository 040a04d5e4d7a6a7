use Rattle.lgc_inputs.proofs.Stops.{tells_same}
use Rattle.lgc_queries.proofs.QueryFiles.{file_answer, file_once, file_is, file_faults, file_fits}
use Rattle.lgc_queries.proofs.file.read_queries.Goals as goal

pub returns-clause-answer : goal.returns-clause-answer
returns-clause-answer g c = file_answer c.args.m.now c.args.bytes.now _ c.queries_in.ensures

pub returns-clause-once : goal.returns-clause-once
returns-clause-once g c = λ told h. tells_same (λ queries. queries) _ _ told (file_once c.args.m.now c.args.bytes.now told h) c.queries_in.ensures

pub returns-clause-complete : goal.returns-clause-complete
returns-clause-complete g c = λ queries h. file_is c.args.m.now c.args.bytes.now queries _ h c.queries_in.ensures

pub returns-clause-fits : goal.returns-clause-fits
returns-clause-fits g c = file_fits c.args.m.now c.args.bytes.now c.names-names.ensures.logic _ c.queries_in.ensures

pub returns-clause-faults : goal.returns-clause-faults
returns-clause-faults g c = file_faults c.args.m.now c.args.bytes.now _ (file_answer c.args.m.now c.args.bytes.now _ c.queries_in.ensures)
