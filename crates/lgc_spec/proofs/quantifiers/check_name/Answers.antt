use Rattle.std.proofs.Common.{true, false, refl}
use Rattle.std.specs.List.{list_any}
use Rattle.std.specs.Str.{bytes_eq}
use Rattle.lgc_spec.proofs.QuantifierSteps.{symbol_fault-is}
use Rattle.lgc_spec.proofs.quantifiers.check_name.Goals as goal
use Rattle.lgc_spec.proofs.quantifiers.check_name.Goals.{then-has_operator-via-then-has_operator, then-has_operator-via-else-has_operator+then-has_quantifier}

pub returns-then-has_operator : goal.returns-then-has_operator
returns-then-has_operator c =
    rw c.fault_at-then-has_operator.ensures (elim c.then-has_operator.branch [
      | then-has_operator-via-then-has_operator w ↦ rw (symbol_fault-is c.args.bytes.now c.args.operators.now c.args.quantifiers.now c.args.name.now c.text_of-text.result.now _ (list_any (λ q. bytes_eq q.name c.text_of-text.result.now) c.args.quantifiers.now) true c.if-quantifiers-ge-MOST_QUANTIFIERS.false c.text_of-text.ensures c.has_operator.ensures refl (rw w.if-has_operator.true refl)) refl
      | then-has_operator-via-else-has_operator+then-has_quantifier w ↦ rw (symbol_fault-is c.args.bytes.now c.args.operators.now c.args.quantifiers.now c.args.name.now c.text_of-text.result.now _ _ true c.if-quantifiers-ge-MOST_QUANTIFIERS.false c.text_of-text.ensures c.has_operator.ensures w.has_quantifier.ensures (rw (w.if-has_operator.false, w.if-has_quantifier.true) refl)) refl
    ])

pub returns : goal.returns
returns c = symbol_fault-is c.args.bytes.now c.args.operators.now c.args.quantifiers.now c.args.name.now c.text_of-text.result.now _ _ false c.if-quantifiers-ge-MOST_QUANTIFIERS.false c.text_of-text.ensures c.has_operator.ensures c.has_quantifier.ensures (rw (c.if-has_operator.false, c.if-has_quantifier.false) refl)
