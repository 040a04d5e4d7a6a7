use Rattle.std.proofs.Common.{length, sym, ◌∙◌, refl}
use Rattle.lgc_spec.proofs.InductionSteps.{binary_rows, operator_named, operator_unknown}
use Rattle.lgc_spec.proofs.induced.induced_given.Goals as goal

pub semilattice_given-requires-clause-rows : goal.semilattice_given-requires-clause-rows
semilattice_given-requires-clause-rows c =
    rw c.items.ensures (binary_rows (length c.args.names.now) c.args.operators.now c.in-Some.place _ c.text_of.result.now c.requires.tables c.in-Some.ensures.place)

pub returns-in-Some : goal.returns-in-Some
returns-in-Some c =
    rw (operator_named c.args.bytes.now c.args.names.now c.args.operators.now c.args.name.now c.args.arity.now c.text_of.result.now (sym c.is_binary.ensures ∙ c.if-not-is_binary.false) c.text_of.ensures c.in-Some.place c.index-operators-place.result c.in-Some.ensures.place c.in-Some.ensures.below)
    (rw c.items.ensures at c.semilattice_given.ensures)

pub returns-in-None : goal.returns-in-None
returns-in-None c =
    rw (c.fault_at-in-None.ensures, operator_unknown c.args.bytes.now c.args.names.now c.args.operators.now c.args.name.now c.args.arity.now c.text_of.result.now (sym c.is_binary.ensures ∙ c.if-not-is_binary.false) c.text_of.ensures c.in-None.ensures.place) refl
