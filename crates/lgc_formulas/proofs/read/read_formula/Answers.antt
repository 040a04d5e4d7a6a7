use Rattle.lgc_inputs.proofs.Stops.{tells_same}
use Rattle.lgc_formulas.proofs.Tops.{formula_answer, formula_once, formula_is, formula_faults, formula_fits, formula_small}
use Rattle.lgc_formulas.proofs.read.read_formula.Goals as goal

pub returns-clause-answer : goal.returns-clause-answer
returns-clause-answer g c = formula_answer c.args.m.now c.args.bytes.now _ c.formula_in.ensures

pub returns-clause-once : goal.returns-clause-once
returns-clause-once g c = λ told h. tells_same (λ formula. formula) _ _ told (formula_once c.args.m.now c.args.bytes.now told h) c.formula_in.ensures

pub returns-clause-complete : goal.returns-clause-complete
returns-clause-complete g c = λ formula h. formula_is c.args.m.now c.args.bytes.now formula _ h c.formula_in.ensures

pub returns-clause-faults : goal.returns-clause-faults
returns-clause-faults g c = formula_faults c.args.m.now c.args.bytes.now c.requires _ (formula_answer c.args.m.now c.args.bytes.now _ c.formula_in.ensures)

pub returns-clause-fits : goal.returns-clause-fits
returns-clause-fits g c = formula_fits c.args.m.now c.args.bytes.now _ c.formula_in.ensures

pub returns-clause-small : goal.returns-clause-small
returns-clause-small g c = formula_small c.args.m.now c.args.bytes.now _ c.formula_in.ensures
