-- Where the sign is whole, it is left to the operator.
use Rattle.lgc_sequents.specs.Signed.{SignedFormula}
use Rattle.lgc_tableau_check.specs.Branches.{items_of}
use Rattle.lgc_tableau_check.proofs.ClosedLaws.{left_to_operator}
use Rattle.lgc_tableau_check.proofs.split.is_split.Goals as goal

pub returns-then-has_sign : goal.returns-then-has_sign
returns-then-has_sign g c =
    let item : SignedFormula = record { formula = c.on.inside.formula; sign = c.on.inside.sign } in
    left_to_operator c.args.m.now g.row.N c.operators-operators.ensures.size (items_of c.args.branch.now) item c.args.on.now c.args.cases.now c.in-Op.op c.in-Op.args c.items.result.now c.is_exact_for.result c.on.view_is c.in-Op.is c.items.ensures (c.has_sign.ensures.0 c.if-has_sign.true) c.is_exact_for.ensures
